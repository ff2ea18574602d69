-- A measure of members and groups: it falls from a group to its members, and from a pane to its group.
use Rattle.std.proofs.Common.{◌≡◌, ℕ, zero, suc, List, [], ◌∷◌, ◌+◌, ◌<◌, ◌≤◌, length, get_or, map, ap, ◌∙◌, arith}
use Rattle.tv_group.specs.declared.group.MemberOf.{MemberOf}
use Rattle.tv_group.specs.declared.group.GroupOf.{GroupOf}
use Rattle.tv_group.specs.declared.group.MemberOf.TheVariants.{Pane as PaneM, outs-Pane}
use Rattle.tv_group.specs.declared.group.MemberOf.TheOpen.{MemberOf-F, GroupOf-F, Leaf as LeafHere, Pane as PaneHere}
use Rattle.tv_group.specs.declared.group.MemberOf.TheFolds.{fold_out-MemberOf, fold_out-GroupOf, map-MemberOf, fold-MemberOf, fold-GroupOf}

abbrev total : List ℕ → ℕ
total [] = 0
total (n ∷ ns) = n + total ns

abbrev pub member_rise : {V : Type 0} → MemberOf-F V ℕ ℕ → ℕ
member_rise (LeafHere v) = 0
member_rise (PaneHere n) = n + 1

abbrev pub group_rise : {V : Type 0} → GroupOf-F V ℕ ℕ → ℕ
group_rise g = total g.members.items + 1

-- the number of groups and panes
unfoldable pub member_height : {V : Type 0} → MemberOf V → ℕ
member_height {V} m = fold-MemberOf V ℕ ℕ member_rise group_rise m

unfoldable pub group_height : {V : Type 0} → GroupOf V → ℕ
group_height {V} g = fold-GroupOf V ℕ ℕ member_rise group_rise g

at_most_total : {A : Type 0} (f : A → ℕ) (xs : List A) (i : ℕ) (d : A) → i < length xs → f (get_or xs i d) ≤ total (map f xs)
at_most_total f [] i d h = absurd (omega arith)
at_most_total f (x ∷ xs) zero d h = omega arith
at_most_total f (x ∷ xs) (suc i) d h = let r : f (get_or xs i d) ≤ total (map f xs) = at_most_total f xs i d (omega arith) in omega arith

module _ {V : Type 0} where
  group_height-members : (g : GroupOf V) → group_height g ≡ total (map member_height g.members.items) + 1
  unfolding member_height group_height
  group_height-members g = fold_out-GroupOf V ℕ ℕ member_rise group_rise g

  abbrev rise_at : MemberOf-F V (MemberOf V) (GroupOf V) → ℕ
  rise_at o = member_rise (map-MemberOf V (MemberOf V) (GroupOf V) ℕ ℕ (fold-MemberOf V ℕ ℕ member_rise group_rise) (fold-GroupOf V ℕ ℕ member_rise group_rise) o)

  member_height-pane : (g : GroupOf V) → member_height (PaneM g) ≡ group_height g + 1
  unfolding member_height group_height
  member_height-pane g = fold_out-MemberOf V ℕ ℕ member_rise group_rise (PaneM g) ∙ ap rise_at (outs-Pane g)

  pub member-lower : (g : GroupOf V) (i : ℕ) (m : MemberOf V) (t : ℕ) → group_height g ≡ t → i < length g.members.items → member_height (get_or g.members.items i m) < t
  member-lower g i m t e h =
      let most : member_height (get_or g.members.items i m) ≤ total (map member_height g.members.items) = at_most_total member_height g.members.items i m h in
      let whole : group_height g ≡ total (map member_height g.members.items) + 1 = group_height-members g in
      omega arith

  pub pane-lower : (m : MemberOf V) (g : GroupOf V) (t : ℕ) → member_height m ≡ t → m ≡ PaneM g → group_height g < t
  pane-lower m g t e is =
      let whole : member_height m ≡ group_height g + 1 = ap member_height is ∙ member_height-pane g in
      omega arith
