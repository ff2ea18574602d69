-- Which leaf a mouse down hits, where leaves are moved or unmarked, and where a list is in parts.
use Rattle.std.proofs.Common.{◌≡◌, Bool, true, false, ◌&&◌, List, ◌++◌, map, Option, Some, None, if◌then◌else◌, refl, sym, ap, ◌∙◌}
use Rattle.std.specs.Prelude.{reverse, option_map}
use Rattle.tv_cells.specs.Layers.{is_in}
use Rattle.tv_cells.specs.declared.rect.Point.{Point}
use Rattle.tv_cells.specs.declared.rect.Rect.{Rect}
use Rattle.tv_event.specs.declared.event.Event.{Event}
use Rattle.tv_event.specs.declared.event.Event.TheVariants as events
use Rattle.tv_event.specs.declared.event.Phase.{Phase}
use Rattle.tv_view.specs.Meaning.{Placed, inside, kept, uncurrent}
use Rattle.tv_view.specs.declared.env.Env.{Env}
use Rattle.tv_view.specs.declared.reaction.Reaction.{Reaction}
use Rattle.tv_view.specs.Points.{point_into}
use Rattle.tv_group.specs.Handling.{hit_after, hit_answer, is_hit, placed_after, point_reaches, topmost}
use Rattle.tv_group.specs.Turns.{down_after, down_here}
use Rattle.tv_group.proofs.HandlingLemmas.{and_false}
use Rattle.tv_group.proofs.FirstLemmas.{find-nowhere, find_last-append-found, find_last-append-unfound, find_last-map, last_changed-append-found, last_changed-append-unfound, last_changed-map, last_changed-unfound}

module _ (point : Point) (p : Phase) (env : Env) where
  abbrev down : Event
  down = events.Down point

  -- the answer of the leaf that was found
  abbrev pub answered : Placed → Reaction
  answered x = hit_answer down p env (Some x)

  -- ---- leaves of a member that isn't current

  unmarked_after : (x : Placed) → hit_after down p env (uncurrent x) ≡ uncurrent (hit_after down p env x)
  unmarked_after x = of x.leaf.is_enabled
    where
      of : (b : Bool) → (if b then placed_after down p env (uncurrent x) else uncurrent x)
          ≡ uncurrent (if b then placed_after down p env x else x)
      of true = refl
      of false = refl

  topmost-unmarked : (xs : List Placed) → topmost point (map uncurrent xs) ≡ option_map uncurrent (topmost point xs)
  topmost-unmarked xs = find_last-map uncurrent (is_hit point) (is_hit point) (λ x. refl) xs

  unmarked_answer : (o : Option Placed) → option_map answered (option_map uncurrent o) ≡ option_map answered o
  unmarked_answer None = refl
  unmarked_answer (Some x) = refl

  pub topmost-kept : (b : Bool) (xs : List Placed) → topmost point xs ≡ None → topmost point (kept b xs) ≡ None
  topmost-kept true xs h = h
  topmost-kept false xs h = topmost-unmarked xs ∙ ap (option_map uncurrent) h

  pub down_here-kept : (b : Bool) (xs : List Placed) → down_here point p env (kept b xs) ≡ down_here point p env xs
  down_here-kept true xs = refl
  down_here-kept false xs = ap (option_map answered) (topmost-unmarked xs) ∙ unmarked_answer (topmost point xs)

  pub down_after-kept : (b : Bool) (xs : List Placed) → down_after point p env (kept b xs) ≡ kept b (down_after point p env xs)
  down_after-kept true xs = refl
  down_after-kept false xs =
      last_changed-map uncurrent (is_hit point) (is_hit point) (λ x. refl) (hit_after down p env) (hit_after down p env) unmarked_after xs

  -- ---- lists in parts

  pub topmost-none : (xs : List Placed) → down_here point p env xs ≡ None → topmost point xs ≡ None
  topmost-none xs h = of (topmost point xs) h
    where
      of : (o : Option Placed) → option_map answered o ≡ None → o ≡ None
      of None h = refl
      of (Some x) h = cc

  pub topmost-some : (xs : List Placed) (r : Reaction) → down_here point p env xs ≡ Some r → (x : Placed) × (topmost point xs ≡ Some x)
  topmost-some xs r h = of (topmost point xs) h
    where
      of : (o : Option Placed) → option_map answered o ≡ Some r → (x : Placed) × (o ≡ Some x)
      of None h = cc
      of (Some x) h = (x, refl)

  pub topmost-append : (xs ys : List Placed) → topmost point xs ≡ None → topmost point ys ≡ None → topmost point (xs ++ ys) ≡ None
  topmost-append xs ys here there = find_last-append-unfound (is_hit point) xs ys there ∙ here

  -- of three parts the second has the topmost leaf
  module _ (before here after : List Placed) (x : Placed) (hit : topmost point here ≡ Some x) (clear : topmost point after ≡ None) where
    later : topmost point (here ++ after) ≡ Some x
    later = find_last-append-unfound (is_hit point) here after clear ∙ hit

    pub down_here-amid : down_here point p env (before ++ (here ++ after)) ≡ down_here point p env here
    down_here-amid = ap (option_map answered) (find_last-append-found (is_hit point) before (here ++ after) x later ∙ sym hit)

    pub down_after-amid : down_after point p env (before ++ (here ++ after)) ≡ before ++ (down_after point p env here ++ after)
    down_after-amid =
        last_changed-append-found (is_hit point) (hit_after down p env) before (here ++ after) x later
        ∙ ap (λ t. before ++ t) (last_changed-append-unfound (is_hit point) (hit_after down p env) here after clear)

  pub down_after-unhit : (xs : List Placed) → topmost point xs ≡ None → down_after point p env xs ≡ xs
  down_after-unhit xs h = last_changed-unfound (is_hit point) (hit_after down p env) xs h

  -- ---- leaves inside a group

  module _ (r : Rect) (xs : List Placed) where
    abbrev inner : Point
    inner = point_into r point

    abbrev down_inside : Event
    down_inside = events.Down inner

    module _ (h : is_in r point.x point.y ≡ true) where
      hit-inside : (x : Placed) → is_hit point (inside r x) ≡ is_hit inner x
      hit-inside x = ap (λ b. x.leaf.is_shown && (b && point_reaches inner x.around x.leaf)) h

      inside_answer : (o : Option Placed)
          → option_map answered (option_map (inside r) o) ≡ option_map (λ x. hit_answer down_inside p env (Some x)) o
      inside_answer None = refl
      inside_answer (Some x) = refl

      inside_after : (x : Placed)
          → hit_after down p env (inside r x) ≡ inside r (hit_after down_inside p env x)
      inside_after x = of x.leaf.is_enabled
        where
          of : (b : Bool)
              → (if b then placed_after down p env (inside r x) else inside r x)
              ≡ inside r (if b then placed_after down_inside p env x else x)
          of true = refl
          of false = refl

      pub down_here-inside : down_here point p env (map (inside r) xs) ≡ down_here inner p env xs
      down_here-inside =
          ap (option_map answered) (find_last-map (inside r) (is_hit point) (is_hit inner) hit-inside xs)
          ∙ inside_answer (topmost inner xs)

      pub down_after-inside : down_after point p env (map (inside r) xs) ≡ map (inside r) (down_after inner p env xs)
      down_after-inside =
          last_changed-map (inside r) (is_hit point) (is_hit inner) hit-inside
          (hit_after down p env) (hit_after down_inside p env) inside_after xs

    -- a group that doesn't have the point
    module _ (h : is_in r point.x point.y ≡ false) where
      miss-inside : (x : Placed) → is_hit point (inside r x) ≡ false
      miss-inside x = ap (λ b. x.leaf.is_shown && (b && point_reaches inner x.around x.leaf)) h ∙ and_false x.leaf.is_shown

      pub topmost-outside : topmost point (map (inside r) xs) ≡ None
      topmost-outside =
          find_last-map (inside r) (is_hit point) (λ _. false) miss-inside xs
          ∙ ap (option_map (inside r)) (find-nowhere (λ _. false) (reverse xs) (λ _. refl))
