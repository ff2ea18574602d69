-- The topmost leaf at a point, in the tree and in the machine, and what a mouse down makes of it.
use Rattle.std.proofs.Common.{◌≡◌, ℕ, true, false, ◌&&◌, if◌then◌else◌, List, map, reverse, find, get_or, Option, Some, None, option_map, refl, sym, ap, ◌∙◌}
use Rattle.tv_cells.specs.declared.rect.Point.{Point}
use Rattle.tv_event.specs.declared.event.Event.TheVariants as events
use Rattle.tv_event.specs.declared.event.Phase.TheVariants as phases
use Rattle.tv_model.specs.declared.desc.Dialog.{Dialog}
use Rattle.tv_view.specs.Meaning.{Leaf, Placed}
use Rattle.tv_machine.specs.State.{LeafState}
use Rattle.tv_machine.specs.Leaves.{PlacedNode, leaf_list}
use Rattle.tv_model.specs.Controls.Contents.{Content}
use Rattle.tv_machine.specs.Controls.Tables.{down_content, remembered}
use Rattle.tv_machine.specs.Dialog.Modal.{Modal, content_at}
use Rattle.tv_machine.specs.Dialog.Rules.{is_visible}
use Rattle.tv_machine.specs.Dialog.Mouse as mouse
use Rattle.tv_view.specs.declared.env.Env.{Env}
use Rattle.tv_view.specs.declared.reaction.Reaction.{Reaction}
use Rattle.tv_view.specs.Effects as effects
use Rattle.tv_view.specs.Effects.{captured, handled}
use Rattle.tv_view.specs.Fields as fields
use Rattle.tv_view.specs.Points as points
use Rattle.tv_view.specs.Reactions.{answer, captures, down_answer}
use Rattle.tv_group.specs.Handling as groups
use Rattle.tv_group.specs.Handling.{group_after, group_answer, hit_after, hit_answer, is_hit, last_changed, placed_after, placed_answer, point_reaches}
use Rattle.tv_machine.specs.Dialog.Lawful.{IsLawfulDialog, LiesInside}
use Rattle.tv_machine.specs.Dialog.Alike.{HoldSame}
use Rattle.tv_group.specs.Ready.{IsPointOf}
use Rattle.tv_group.specs.Tree.{around_of, leaf_as, placed_as, tree_as, tree_of}
use Rattle.tv_machine.proofs.ListLemmas.{find-map, find-same, found-all}
use Rattle.tv_machine.proofs.LeafLemmas.{IsIn, leaf_at-all, leaf_at-member, leaves-are}
use Rattle.tv_group.proofs.Tree.TreeLemmas.{tree-apart, where_id}
use Rattle.tv_machine.proofs.MarkLemmas.{visible-same}
use Rattle.tv_group.proofs.Tree.ChangedLemmas.{All-reverse, last_changed-found, last_changed-same, reverse-map}
use Rattle.tv_group.proofs.Tree.Mouse.PlaceLemmas.{down-seen, seen_point}
use Rattle.tv_group.proofs.Tree.Mouse.ReachLemmas.{IsPlacedWell, column-seen, placed_well, reaches-tree, row-seen}

-- ---- a down on the tree

-- what the tree answers to a mouse down, and what it becomes
abbrev pub down_answered : Dialog → Modal → Env → Point → Reaction
down_answered d m env p = group_answer (events.Down p) phases.Focused env (tree_of d m)

abbrev pub after_down : Dialog → Modal → Env → Point → List Placed
after_down d m env p = group_after (events.Down p) phases.Focused env (tree_of d m)

-- ---- the topmost leaf

-- who is the topmost leaf doesn't change where rules hold as they did
pub topmost-same : (d : Dialog) (m after : Modal) (p : Point) → HoldSame d m.leaves after.leaves
    → mouse.topmost_leaf d m p ≡ mouse.topmost_leaf d after p
topmost-same d m after p same =
    find-same (λ leaf. is_visible d m.leaves leaf && mouse.is_inside leaf p)
    (λ leaf. is_visible d after.leaves leaf && mouse.is_inside leaf p) (reverse (leaf_list d.views))
    (λ k e h. ap (λ b. b && mouse.is_inside (get_or (reverse (leaf_list d.views)) k e) p)
    (visible-same d m.leaves after.leaves same (get_or (reverse (leaf_list d.views)) k e)))

module _ (d : Dialog) (lawful : IsLawfulDialog d) (p : Point) (at : IsPointOf p) where
  pub well-in : (leaf : PlacedNode) → IsIn d leaf → IsPlacedWell leaf
  well-in leaf e = leaf_at-all IsPlacedWell d leaf.node.id leaf (placed_well d lawful) e

  pub lies-in : (leaf : PlacedNode) → IsIn d leaf → LiesInside d.node leaf
  lies-in leaf e = leaf_at-all (LiesInside d.node) d leaf.node.id leaf lawful.places e

  pub hit-tree : (ruled : List LeafState) (m : Modal) (leaf : PlacedNode) → IsIn d leaf
      → is_hit p (placed_as d ruled m leaf) ≡ (is_visible d ruled leaf && mouse.is_inside leaf p)
  hit-tree ruled m leaf e = ap (λ b. is_visible d ruled leaf && b) (reaches-tree d ruled m leaf p (well-in leaf e) (lies-in leaf e) at)

  find-hit : (m : Modal) → find (λ leaf. is_hit p (placed_as d m.leaves m leaf)) (reverse (leaf_list d.views)) ≡ mouse.topmost_leaf d m p
  find-hit m =
      find-same (λ leaf. is_hit p (placed_as d m.leaves m leaf)) (λ leaf. is_visible d m.leaves leaf && mouse.is_inside leaf p)
      (reverse (leaf_list d.views))
      (All-reverse (λ leaf. is_hit p (placed_as d m.leaves m leaf) ≡ (is_visible d m.leaves leaf && mouse.is_inside leaf p))
      (leaf_list d.views)
      (leaves-are d lawful (λ leaf. is_hit p (placed_as d m.leaves m leaf) ≡ (is_visible d m.leaves leaf && mouse.is_inside leaf p))
      (hit-tree m.leaves m)))

  -- the same leaf is the topmost one in the tree and in the machine
  pub topmost-tree : (m : Modal) → groups.topmost p (tree_as d m.leaves m) ≡ option_map (placed_as d m.leaves m) (mouse.topmost_leaf d m p)
  topmost-tree m =
      ap (find (is_hit p)) (reverse-map (placed_as d m.leaves m) (leaf_list d.views))
      ∙ find-map (placed_as d m.leaves m) (is_hit p) (reverse (leaf_list d.views))
      ∙ ap (option_map (placed_as d m.leaves m)) (find-hit m)

  pub topmost-in : (m : Modal) (leaf : PlacedNode) → mouse.topmost_leaf d m p ≡ Some leaf → IsIn d leaf
  topmost-in m leaf e =
      found-all (IsIn d) (λ leaf. is_visible d m.leaves leaf && mouse.is_inside leaf p) (reverse (leaf_list d.views)) leaf
      (All-reverse (IsIn d) (leaf_list d.views) (leaf_at-member d lawful)) e

  -- ---- the tree after a down

  module _ (m : Modal) (env : Env) where
    abbrev pub placed_here : PlacedNode → Placed
    placed_here leaf = placed_as d m.leaves m leaf

    pub answer-topmost : down_answered d m env p
        ≡ hit_answer (events.Down p) phases.Focused env (option_map placed_here (mouse.topmost_leaf d m p))
    unfolding group_answer
    answer-topmost = ap (hit_answer (events.Down p) phases.Focused env) (topmost-tree m)

    -- a leaf that stays as it is leaves all as they are
    pub after-same : ((leaf : PlacedNode) → mouse.topmost_leaf d m p ≡ Some leaf
        → hit_after (events.Down p) phases.Focused env (placed_here leaf) ≡ placed_here leaf)
        → after_down d m env p ≡ tree_of d m
    unfolding group_after
    after-same same =
        last_changed-same (is_hit p) (hit_after (events.Down p) phases.Focused env) (tree_as d m.leaves m)
        (λ x e. of (mouse.topmost_leaf d m p) refl x (sym (topmost-tree m) ∙ e))
      where
        of : (o : Option PlacedNode) → mouse.topmost_leaf d m p ≡ o → (x : Placed) → option_map placed_here o ≡ Some x
            → hit_after (events.Down p) phases.Focused env x ≡ x
        of None is x e = absurd cc
        of (Some leaf) is x e =
            let here : placed_here leaf ≡ x = cc in
            ap (hit_after (events.Down p) phases.Focused env) (sym here) ∙ same leaf is ∙ here

    -- else it alone changes
    pub after-changed : (leaf : PlacedNode) → mouse.topmost_leaf d m p ≡ Some leaf
        → after_down d m env p ≡ map (where_id d lawful leaf.node.id (hit_after (events.Down p) phases.Focused env)) (tree_as d m.leaves m)
    unfolding group_after
    after-changed leaf e =
        last_changed-found (is_hit p) (hit_after (events.Down p) phases.Focused env) (λ x. x.leaf.node.id) (tree_as d m.leaves m)
        (placed_here leaf)
        (tree-apart d lawful m.leaves m) (topmost-tree m ∙ ap (option_map placed_here) e)

-- ---- one leaf

module _ (d : Dialog) (p : Point) (at : IsPointOf p) (ruled : List LeafState) (m : Modal) (env : Env) (leaf : PlacedNode)
    (well : IsPlacedWell leaf) where
  abbrev standing : Leaf
  standing = leaf_as d ruled m leaf

  abbrev there : Point
  there = seen_point (around_of d leaf) p

  pub down-answer : placed_answer (events.Down p) phases.Focused env (placed_as d ruled m leaf) ≡ down_answer env standing
  unfolding answer
  down-answer = ap (λ e. answer e phases.Focused env standing) (down-seen (around_of d leaf) p)

  down-after : placed_after (events.Down p) phases.Focused env (placed_as d ruled m leaf)
      ≡ record (placed_as d ruled m leaf) { leaf = if captures standing leaf.node.kind then captured env there standing else standing }
  unfolding handled
  down-after = ap (λ e. record (placed_as d ruled m leaf) { leaf = handled e phases.Focused env standing }) (down-seen (around_of d leaf) p)

  -- a leaf that doesn't come to hold the mouse stays as it is
  pub down-kept : captures standing leaf.node.kind ≡ false
      → placed_after (events.Down p) phases.Focused env (placed_as d ruled m leaf) ≡ placed_as d ruled m leaf
  down-kept e = down-after ∙ ap (λ b. record (placed_as d ruled m leaf) { leaf = if b then captured env there standing else standing }) e

  -- what it holds where it comes to hold the mouse
  abbrev pub content_down : ℕ → Content
  content_down first = down_content leaf.node.kind first (mouse.column_on leaf p) (mouse.row_on leaf p) (content_at m leaf.node.id)

  pub down-captured : (first : ℕ) → captures standing leaf.node.kind ≡ true → effects.first_shown_before env standing ≡ first
      → placed_after (events.Down p) phases.Focused env (placed_as d ruled m leaf)
      ≡ record (placed_as d ruled m leaf) {
        leaf = record
            (fields.with_content (content_down first) standing) { held = Some (remembered leaf.node.kind (mouse.row_on leaf p)) };
      }
  down-captured first takes from =
      down-after
      ∙ ap (λ b. record (placed_as d ruled m leaf) { leaf = if b then captured env there standing else standing }) takes
      ∙ ap (λ n. stands n (points.column_of standing there) (points.row_of standing there)) from
      ∙ ap (λ n. stands first n (points.row_of standing there)) (column-seen d leaf p well at)
      ∙ ap (λ n. stands first (mouse.column_on leaf p) n) (row-seen d leaf p well at)
    where
      stands : ℕ → ℕ → ℕ → Placed
      stands first column row =
          record (placed_as d ruled m leaf) {
            leaf = record
                (fields.with_content (down_content leaf.node.kind first column row (content_at m leaf.node.id)) standing) {
                  held = Some
                      (remembered leaf.node.kind row);
                };
          }
