-- A loop that hands a mouse down to the members from the last to the first, until one of them has the topmost leaf at the point.
use Rattle.std.proofs.Common.{◌≡◌, ℕ, true, false, List, ◌++◌, ◌+◌, ◌<◌, ◌≤◌, [], ◌∷◌, length, get_or, map, set, refl, sym, ap, ◌∙◌, Option, None, Some}
use Rattle.std.specs.Prelude.{option_map}
use Rattle.tv_cells.specs.Layers.{is_in}
use Rattle.tv_cells.specs.declared.rect.Point.{Point}
use Rattle.tv_event.specs.declared.event.Phase.{Phase}
use Rattle.tv_view.specs.Meaning.{Leaf, Placed, alone, inside, kept}
use Rattle.tv_view.specs.declared.env.Env.{Env}
use Rattle.tv_view.specs.declared.reaction.Reaction.{Reaction}
use Rattle.tv_view.specs.Points.{point_into}
use Rattle.tv_group.specs.Current.{is_at}
use Rattle.tv_group.specs.Handling.{topmost}
use Rattle.tv_group.specs.Opened.{opened, opened_member}
use Rattle.tv_group.specs.Turns.{down_after, down_here}
use Rattle.tv_group.specs.declared.group.MemberOf.{MemberOf}
use Rattle.tv_group.specs.declared.group.GroupOf.{GroupOf}
use Rattle.tv_group.specs.declared.group.MemberOf.TheVariants.{Leaf as LeafM, Pane as PaneM}
use Rattle.tv_group.proofs.HitLemmas.{answered, down_after-amid, down_after-inside, down_after-kept, down_after-unhit, down_here-amid, down_here-inside, down_here-kept, topmost-append, topmost-kept, topmost-none, topmost-outside, topmost-some}
use Rattle.tv_group.proofs.OpenedLemmas.{member-leaf, member-pane, opened_member-leaf, opened_member-pane, opened_to}
use Rattle.tv_group.proofs.MembersLemmas.{leaves_of, leaves-same, leaves-split, leaves-written, opened-leaves, opened_from, opened_from-all, opened_from-end, opened_from-written}

module _ {V : Type 0} (look : V → Leaf) (point : Point) (p : Phase) (env : Env) where
  -- no leaf has changed, and the point hits none of the members from the i-th on
  pub record Falling (whole : List Placed) (current : Option ℕ) (i : ℕ) (ms : List (MemberOf V)) : Type 0 where
    pub same : leaves_of look current ms ≡ whole
    pub unhit : topmost point (opened_from look current i ms) ≡ None

  pub falling-init : (current : Option ℕ) (i : ℕ) (ms : List (MemberOf V)) → length ms ≤ i
      → Falling (leaves_of look current ms) current i ms
  falling-init current i ms h = record {
    same = refl;
    unhit = ap (topmost point) (opened_from-end look current i ms h);
  }

  module _ (whole : List Placed) (current : Option ℕ) (j : ℕ) (ms : List (MemberOf V)) (before : Falling whole current j ms) where
    -- member i, which is the one before the j-th
    module _ (i : ℕ) (at : j ≡ i + 1) (h : i < length ms) (m m' : MemberOf V) where
      -- its leaves, the same as the group has them, and those of the members before it and after it
      abbrev own : List Placed
      own = opened_member look (get_or ms i m)

      abbrev here : List Placed
      here = kept (is_at current i) own

      abbrev first : List Placed
      first = opened_to look current i ms

      abbrev rest : List Placed
      rest = opened_from look current (i + 1) ms

      clear : topmost point rest ≡ None
      clear = ap (λ k. topmost point (opened_from look current k ms)) (sym at) ∙ before.unhit

      module _ (o : Option Reaction) (told : o ≡ down_here point p env own)
          (does : opened_member look m' ≡ down_after point p env own) where
        pub falling-passed : o ≡ None → Falling whole current i (set ms i m')
        falling-passed none =
            let unhit : topmost point own ≡ None = topmost-none point p env own (sym told ∙ none) in
            let stays : opened_member look m' ≡ own = does ∙ down_after-unhit point p env own unhit in
            record {
              same = leaves-same look current i ms m m' stays ∙ before.same;
              unhit =
                  ap (topmost point) (opened_from-written look current i ms m' h)
                  ∙ topmost-append point p env (kept (is_at current i) (opened_member look m')) rest
                  (topmost-kept point p env (is_at current i) (opened_member look m') (ap (topmost point) stays ∙ unhit))
                  clear;
            }

        pub falling-hit : (r : Reaction) → o ≡ Some r
            → (Some r ≡ down_here point p env whole) × (leaves_of look current (set ms i m') ≡ down_after point p env whole)
        falling-hit r is =
            let all : whole ≡ first ++ (here ++ rest) = sym before.same ∙ leaves-split look current i ms m h in
            let here_is : down_here point p env here ≡ Some r = down_here-kept point p env (is_at current i) own ∙ sym told ∙ is in
            let found = topmost-some point p env here r here_is in (
              sym (ap (down_here point p env) all ∙ down_here-amid point p env first here rest found.0 found.1 clear ∙ here_is),
              leaves-written look current i ms m' h
                  ∙ sym
                  (ap (down_after point p env) all
                  ∙ down_after-amid point p env first here rest found.0 found.1 clear
                  ∙ ap (λ t. first ++ (t ++ rest))
                  (down_after-kept point p env (is_at current i) own ∙ ap (kept (is_at current i)) (sym does))),
            )

    -- it hits none at all
    pub falling-done : j ≡ 0 → (None ≡ down_here point p env whole) × (leaves_of look current ms ≡ down_after point p env whole)
    falling-done zero =
        let unhit : topmost point whole ≡ None =
        ap (topmost point) (sym before.same ∙ sym (opened_from-all look current ms))
        ∙ ap (λ k. topmost point (opened_from look current k ms)) (sym zero)
        ∙ before.unhit in
        (sym (ap (option_map (answered point p env)) unhit), before.same ∙ sym (down_after-unhit point p env whole unhit))

  -- ---- the group around the members

  -- the same in the group, which is written with its members
  pub fallen-group : (g new : GroupOf V) (o : Option Reaction) (inner : Point) → is_in g.bounds point.x point.y ≡ true
      → inner ≡ point_into g.bounds point → new.bounds ≡ g.bounds
      → (o ≡ down_here inner p env (leaves_of look g.current g.members.items))
      × (leaves_of look new.current new.members.items ≡ down_after inner p env (leaves_of look g.current g.members.items))
      → (o ≡ down_here point p env (opened look g)) × (opened look new ≡ down_after point p env (opened look g))
  fallen-group g new o inner has is bounds done =
      let xs = leaves_of look g.current g.members.items in (
        done.0
            ∙ ap (λ x. down_here x p env xs) is
            ∙ sym (ap (down_here point p env) (opened-leaves look g) ∙ down_here-inside point p env g.bounds xs has),
        opened-leaves look new
            ∙ ap (λ b. map (inside b) (leaves_of look new.current new.members.items)) bounds
            ∙ ap (map (inside g.bounds)) (done.1 ∙ ap (λ x. down_after x p env xs) is)
            ∙ sym (ap (down_after point p env) (opened-leaves look g) ∙ down_after-inside point p env g.bounds xs has),
      )

  -- a group that doesn't have the point
  pub missed-group : (g : GroupOf V) → is_in g.bounds point.x point.y ≡ false
      → (None ≡ down_here point p env (opened look g)) × (opened look g ≡ down_after point p env (opened look g))
  missed-group g h =
      let unhit : topmost point (opened look g) ≡ None =
      ap (topmost point) (opened-leaves look g) ∙ topmost-outside point p env g.bounds (leaves_of look g.current g.members.items) h in
      (sym (ap (option_map (answered point p env)) unhit), sym (down_after-unhit point p env (opened look g) unhit))

  -- ---- a member by what it is

  pub down_here-leaf : (m : MemberOf V) (v : V) → m ≡ LeafM v
      → down_here point p env (alone (look v) ∷ []) ≡ down_here point p env (opened_member look m)
  down_here-leaf m v is = ap (down_here point p env) (sym (member-leaf look m v is))

  pub down_after-leaf : (v new : V) → alone (look new) ∷ [] ≡ down_after point p env (alone (look v) ∷ [])
      → opened_member look (LeafM new) ≡ down_after point p env (opened_member look (LeafM v))
  down_after-leaf v new does = opened_member-leaf look new ∙ does ∙ ap (down_after point p env) (sym (opened_member-leaf look v))

  pub down_here-pane : (m : MemberOf V) (g : GroupOf V) → m ≡ PaneM g
      → down_here point p env (opened look g) ≡ down_here point p env (opened_member look m)
  down_here-pane m g is = ap (down_here point p env) (sym (member-pane look m g is))

  pub down_after-pane : (g new : GroupOf V) → opened look new ≡ down_after point p env (opened look g)
      → opened_member look (PaneM new) ≡ down_after point p env (opened_member look (PaneM g))
  down_after-pane g new does = opened_member-pane look new ∙ does ∙ ap (down_after point p env) (sym (opened_member-pane look g))
