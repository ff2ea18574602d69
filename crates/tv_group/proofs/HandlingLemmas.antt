-- What the scan of leaves for one that takes an event does with leaves that are moved or unmarked, and with a list in parts.
use Rattle.std.proofs.Common.{◌≡◌, Bool, true, false, not, ◌&&◌, ◌||◌, List, [], ◌∷◌, ◌++◌, map, Option, Some, None, if◌then◌else◌, refl, sym, ap, ◌∙◌}
use Rattle.std.specs.Prelude.{find, option_map, unwrap_or}
use Rattle.tv_cells.specs.declared.rect.Point.{Point}
use Rattle.tv_cells.specs.declared.rect.Rect.{Rect}
use Rattle.tv_event.specs.declared.event.Command.{Command}
use Rattle.tv_event.specs.declared.event.Event.{Event}
use Rattle.tv_event.specs.declared.event.Event.TheVariants as events
use Rattle.tv_event.specs.declared.event.Phase.{Phase}
use Rattle.tv_event.specs.declared.event.Phase.TheVariants as phases
use Rattle.tv_view.specs.Meaning.{Placed, inside, kept, uncurrent}
use Rattle.tv_view.specs.declared.env.Env.{Env}
use Rattle.tv_view.specs.declared.reaction.Reaction.{Reaction}
use Rattle.tv_view.specs.declared.reaction.Reaction.TheVariants as reactions
use Rattle.tv_view.specs.declared.reaction.Reaction.TheVariants.{Pass}
use Rattle.tv_view.specs.Points.{moved_into}
use Rattle.tv_view.specs.Reactions.{answer}
use Rattle.tv_group.specs.Handling.{found_answer, group_after, group_answer, hit_answer, is_awake, is_offered, is_pass, placed_after, placed_answer, scan_after, scan_answer, takes, topmost}
use Rattle.tv_group.specs.Turns.{down_after, down_here, goes_to_all}
use Rattle.tv_group.proofs.FirstLemmas.{find-append-found, find-append-unfound, find-holds, find-map, first_changed-append-found, first_changed-append-unfound, first_changed-map, first_changed-unfound}

-- ---- answers

pub pass_of : (r : Reaction) → is_pass r ≡ true → r ≡ Pass
pass_of reactions.Pass h = refl
pass_of reactions.Done h = cc
pass_of (reactions.Focus i) h = cc
pass_of (reactions.FocusPress i item) h = cc
pass_of (reactions.Post i c) h = cc
pass_of (reactions.Changed i) h = cc
pass_of (reactions.Capture i) h = cc
pass_of reactions.Release h = cc

pub and_false : (b : Bool) → (b && false) ≡ false
and_false true = refl
and_false false = refl

or_false : (b : Bool) → b || false ≡ true → b ≡ true
or_false true h = refl
or_false false h = h

not_both : (offered passed : Bool) → offered && not passed ≡ true → passed ≡ true → ⊥
not_both true true e h = cc
not_both true false e h = cc
not_both false passed e h = cc

-- ---- turns

offered-inside : (e : Event) (p : Phase) (r : Rect) (x : Placed) → is_offered e p (inside r x) ≡ is_offered (moved_into r e) p x
offered-inside (events.Key k) phases.Pre r x = refl
offered-inside (events.Key k) phases.Focused r x = refl
offered-inside (events.Key k) phases.Post r x = refl
offered-inside (events.Command c) phases.Pre r x = refl
offered-inside (events.Command c) phases.Focused r x = refl
offered-inside (events.Command c) phases.Post r x = refl
offered-inside (events.Move point) p r x = refl
offered-inside (events.Up point) p r x = refl
offered-inside (events.Broadcast c) p r x = refl
offered-inside (events.Down point) p r x = refl

-- marks don't matter where all are asked
offered-unmarked : (e : Event) (p : Phase) (x : Placed) → goes_to_all e p ≡ true → is_offered e p (uncurrent x) ≡ is_offered e p x
offered-unmarked (events.Key k) phases.Pre x h = refl
offered-unmarked (events.Key k) phases.Focused x h = cc
offered-unmarked (events.Key k) phases.Post x h = refl
offered-unmarked (events.Command c) phases.Pre x h = refl
offered-unmarked (events.Command c) phases.Focused x h = cc
offered-unmarked (events.Command c) phases.Post x h = refl
offered-unmarked (events.Move point) p x h = refl
offered-unmarked (events.Up point) p x h = refl
offered-unmarked (events.Broadcast c) p x h = refl
offered-unmarked (events.Down point) p x h = refl

-- what isn't current gets nothing where the current member alone is asked
offered-skipped : (e : Event) (p : Phase) (x : Placed) → goes_to_all e p ≡ false → is_offered e p (uncurrent x) ≡ false
offered-skipped (events.Key k) phases.Pre x h = cc
offered-skipped (events.Key k) phases.Focused x h = and_false (is_awake x.leaf)
offered-skipped (events.Key k) phases.Post x h = cc
offered-skipped (events.Command c) phases.Pre x h = cc
offered-skipped (events.Command c) phases.Focused x h = and_false (is_awake x.leaf)
offered-skipped (events.Command c) phases.Post x h = cc
offered-skipped (events.Move point) p x h = cc
offered-skipped (events.Up point) p x h = cc
offered-skipped (events.Broadcast c) p x h = cc
offered-skipped (events.Down point) p x h = cc

module _ (e : Event) (p : Phase) (env : Env) where
  takes-inside : (r : Rect) (x : Placed) → takes e p env (inside r x) ≡ takes (moved_into r e) p env x
  takes-inside r x = ap (λ b. b && not (is_pass (placed_answer (moved_into r e) p env x))) (offered-inside e p r x)

  takes-unmarked : goes_to_all e p ≡ true → (x : Placed) → takes e p env (uncurrent x) ≡ takes e p env x
  takes-unmarked h x = ap (λ b. b && not (is_pass (placed_answer e p env x))) (offered-unmarked e p x h)

  takes-skipped : goes_to_all e p ≡ false → (x : Placed) → takes e p env (uncurrent x) ≡ false
  takes-skipped h x = ap (λ b. b && not (is_pass (placed_answer e p env x))) (offered-skipped e p x h)

  -- ---- leaves inside a group

  found-inside : (r : Rect) (o : Option Placed) → found_answer e p env (option_map (inside r) o) ≡ found_answer (moved_into r e) p env o
  found-inside r None = refl
  found-inside r (Some x) = refl

  pub scan_answer-inside : (r : Rect) (xs : List Placed) → scan_answer e p env (map (inside r) xs) ≡ scan_answer (moved_into r e) p env xs
  scan_answer-inside r xs =
      ap (found_answer e p env) (find-map (inside r) (takes e p env) (takes (moved_into r e) p env) (takes-inside r) xs)
      ∙ found-inside r (find (takes (moved_into r e) p env) xs)

  pub scan_after-inside : (r : Rect) (xs : List Placed)
      → scan_after e p env (map (inside r) xs) ≡ map (inside r) (scan_after (moved_into r e) p env xs)
  scan_after-inside r xs =
      first_changed-map (inside r) (takes e p env) (takes (moved_into r e) p env) (takes-inside r)
      (placed_after e p env) (placed_after (moved_into r e) p env) (λ x. refl) xs

  -- ---- leaves of a member that isn't current

  found-unmarked : (o : Option Placed) → found_answer e p env (option_map uncurrent o) ≡ found_answer e p env o
  found-unmarked None = refl
  found-unmarked (Some x) = refl

  pub scan_answer-kept : (b : Bool) (xs : List Placed) → goes_to_all e p || b ≡ true
      → scan_answer e p env (kept b xs) ≡ scan_answer e p env xs
  scan_answer-kept true xs h = refl
  scan_answer-kept false xs h =
      ap (found_answer e p env) (find-map uncurrent (takes e p env) (takes e p env) (takes-unmarked (or_false (goes_to_all e p) h)) xs)
      ∙ found-unmarked (find (takes e p env) xs)

  pub scan_after-kept : (b : Bool) (xs : List Placed) → goes_to_all e p || b ≡ true
      → scan_after e p env (kept b xs) ≡ kept b (scan_after e p env xs)
  scan_after-kept true xs h = refl
  scan_after-kept false xs h =
      first_changed-map uncurrent (takes e p env) (takes e p env) (takes-unmarked (or_false (goes_to_all e p) h))
      (placed_after e p env) (placed_after e p env) (λ x. refl) xs

  pub taker-skipped : (b : Bool) (xs : List Placed) → goes_to_all e p || b ≡ false → find (takes e p env) (kept b xs) ≡ None
  taker-skipped b xs h = of (goes_to_all e p) b refl h
    where
      nowhere : (xs : List Placed) → goes_to_all e p ≡ false → find (takes e p env) (map uncurrent xs) ≡ None
      nowhere [] g = refl
      nowhere (x ∷ xs) g =
          ap (λ t. if t then Some (uncurrent x) else find (takes e p env) (map uncurrent xs)) (takes-skipped g x) ∙ nowhere xs g

      of : (all b : Bool) → goes_to_all e p ≡ all → all || b ≡ false → find (takes e p env) (kept b xs) ≡ None
      of true b g h = cc
      of false true g h = cc
      of false false g h = nowhere xs g

  -- ---- whether one takes the event

  pub taker-none : (xs : List Placed) → is_pass (scan_answer e p env xs) ≡ true → find (takes e p env) xs ≡ None
  taker-none xs h = of (find (takes e p env) xs) (λ x u. find-holds (takes e p env) xs x u) h
    where
      of : (o : Option Placed) → ((x : Placed) → o ≡ Some x → takes e p env x ≡ true) → is_pass (found_answer e p env o) ≡ true → o ≡ None
      of None f h = refl
      of (Some x) f h = absurd (not_both (is_offered e p x) (is_pass (placed_answer e p env x)) (f x refl) h)

  pub taker-some : (xs : List Placed) → is_pass (scan_answer e p env xs) ≡ false → (x : Placed) × (find (takes e p env) xs ≡ Some x)
  taker-some xs h = of (find (takes e p env) xs) h
    where
      of : (o : Option Placed) → is_pass (found_answer e p env o) ≡ false → (x : Placed) × (o ≡ Some x)
      of None h = cc
      of (Some x) h = (x, refl)

  -- ---- lists in parts

  pub scan_answer-append-untaken : (xs ys : List Placed) → find (takes e p env) xs ≡ None
      → scan_answer e p env (xs ++ ys) ≡ scan_answer e p env ys
  scan_answer-append-untaken xs ys h = ap (found_answer e p env) (find-append-unfound (takes e p env) xs ys h)

  pub scan_answer-append-taken : (xs ys : List Placed) → is_pass (scan_answer e p env xs) ≡ false
      → scan_answer e p env (xs ++ ys) ≡ scan_answer e p env xs
  scan_answer-append-taken xs ys h =
      let found = taker-some xs h in
      ap (found_answer e p env) (find-append-found (takes e p env) xs ys found.0 found.1 ∙ sym found.1)

  pub scan_after-append-untaken : (xs ys : List Placed) → find (takes e p env) xs ≡ None
      → scan_after e p env (xs ++ ys) ≡ xs ++ scan_after e p env ys
  scan_after-append-untaken xs ys h = first_changed-append-unfound (takes e p env) (placed_after e p env) xs ys h

  pub scan_after-append-taken : (xs ys : List Placed) → is_pass (scan_answer e p env xs) ≡ false
      → scan_after e p env (xs ++ ys) ≡ scan_after e p env xs ++ ys
  scan_after-append-taken xs ys h =
      let found = taker-some xs h in
      first_changed-append-found (takes e p env) (placed_after e p env) xs ys found.0 found.1

  -- ---- where all pass

  pub scan_after-pass : (xs : List Placed) → scan_answer e p env xs ≡ Pass → scan_after e p env xs ≡ xs
  scan_after-pass xs h = first_changed-unfound (takes e p env) (placed_after e p env) xs (taker-none xs (ap is_pass h))

-- ---- the parts of a group's answer

-- events other than mouse downs go from leaf to leaf
pub group_answer-scan : (e : Event) (p : Phase) (env : Env) (xs : List Placed) → ((point : Point) → e ≡ events.Down point → ⊥)
    → scan_answer e p env xs ≡ group_answer e p env xs
unfolding group_answer
group_answer-scan (events.Down point) p env xs other = absurd (other point refl)
group_answer-scan (events.Key k) p env xs other = refl
group_answer-scan (events.Command c) p env xs other = refl
group_answer-scan (events.Move point) p env xs other = refl
group_answer-scan (events.Up point) p env xs other = refl
group_answer-scan (events.Broadcast c) p env xs other = refl

pub group_after-scan : (e : Event) (p : Phase) (env : Env) (xs : List Placed) → ((point : Point) → e ≡ events.Down point → ⊥)
    → scan_after e p env xs ≡ group_after e p env xs
unfolding group_after
group_after-scan (events.Down point) p env xs other = absurd (other point refl)
group_after-scan (events.Key k) p env xs other = refl
group_after-scan (events.Command c) p env xs other = refl
group_after-scan (events.Move point) p env xs other = refl
group_after-scan (events.Up point) p env xs other = refl
group_after-scan (events.Broadcast c) p env xs other = refl

-- a mouse down that hits no leaf is passed on
pub group_answer-down : (point : Point) (p : Phase) (env : Env) (xs : List Placed)
    → unwrap_or (down_here point p env xs) Pass ≡ group_answer (events.Down point) p env xs
unfolding group_answer
group_answer-down point p env xs = of (topmost point xs)
  where
    of : (o : Option Placed)
        → unwrap_or (option_map (λ x. hit_answer (events.Down point) p env (Some x)) o) Pass ≡ hit_answer (events.Down point) p env o
    of None = refl
    of (Some x) = refl

pub group_after-down : (point : Point) (p : Phase) (env : Env) (xs : List Placed)
    → down_after point p env xs ≡ group_after (events.Down point) p env xs
unfolding group_after
group_after-down point p env xs = refl
