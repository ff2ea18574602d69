-- Moves and ups on the tree of a dialog do what they do on the machine's dialog while a leaf holds the mouse.
use Rattle.std.proofs.Common.{◌≡◌, ℕ, Bool, true, false, ◌&&◌, ◌==◌, if◌then◌else◌, map, Some, is_some, IsTrue, refl, sym, ap, subst, ◌∙◌}
use Rattle.tv_cells.specs.declared.rect.Point.{Point}
use Rattle.tv_event.specs.declared.event.Event.TheVariants as events
use Rattle.tv_event.specs.declared.event.Phase.{Phase}
use Rattle.tv_model.specs.declared.kind.Kind.{Kind}
use Rattle.tv_model.specs.declared.kind.Kind.TheVariants as kinds
use Rattle.tv_model.specs.declared.desc.Dialog.{Dialog}
use Rattle.tv_view.specs.Meaning.{Leaf, Placed, has_item, holds_mouse}
use Rattle.tv_model.specs.Description.Nodes.{is_cluster}
use Rattle.tv_machine.specs.State.{Held}
use Rattle.tv_machine.specs.Leaves.{PlacedNode}
use Rattle.tv_model.specs.Controls.Contents.{Content}
use Rattle.tv_machine.specs.Controls.Tables.{move_content}
use Rattle.tv_machine.specs.Dialog.Modal.{Modal, content_at, leaf_at, content_put}
use Rattle.tv_machine.specs.Dialog.Mouse as mouse
use Rattle.tv_machine.specs.Dialog.Mouse.{held_moved, held_up, released}
use Rattle.tv_view.specs.declared.env.Env.{Env}
use Rattle.tv_view.specs.declared.reaction.Reaction.TheVariants.{Pass, Done}
use Rattle.tv_view.specs.Effects.{handled}
use Rattle.tv_view.specs.Fields as fields
use Rattle.tv_view.specs.Points as points
use Rattle.tv_group.specs.Handling.{group_after, group_answer, placed_after}
use Rattle.tv_machine.specs.Dialog.Lawful.{IsLawfulDialog}
use Rattle.tv_group.specs.Ready.{IsLike, IsPointOf}
use Rattle.tv_machine.specs.Dialog.Alike.{HoldSame}
use Rattle.tv_group.specs.Tree.{IsSteady, IsSteadyContent, around_of, leaf_as, placed_as, tree_of}
use Rattle.tv_machine.proofs.ListLemmas.{bool_cases, option_cases}
use Rattle.tv_machine.proofs.LeafLemmas.{IsIn, leaf_at-in}
use Rattle.tv_group.proofs.Tree.TreeLemmas.{steady-changed, steady-leaf, where_id}
use Rattle.tv_machine.proofs.MarkLemmas.{hold-itself}
use Rattle.tv_group.proofs.Tree.Mouse.HoldLemmas.{hold-kept, tree-at, tree-with_hold}
use Rattle.tv_group.proofs.Tree.Mouse.PlaceLemmas.{move-seen, seen_point}
use Rattle.tv_group.proofs.Tree.Mouse.ReachLemmas.{IsPlacedWell, inside-seen, row-seen}
use Rattle.tv_group.proofs.Tree.Mouse.TopmostLemmas.{well-in}
use Rattle.tv_group.proofs.Tree.Mouse.TakenLemmas.{held-remembered, move-answer, scan-held, scan_after-held, takes-move}

-- ---- what a move makes of what a leaf holds

pub move-value : (kind : Kind) (row : ℕ) (c : Content) → is_cluster kind ≡ true → (move_content kind row c).value ≡ c.value
move-value (kinds.List list) row c e = absurd cc
move-value _ row c e = refl

pub move-steady : (f : Bool) (kind : Kind) (row : ℕ) (c : Content) → IsSteadyContent f kind c
    → IsSteadyContent f kind (move_content kind row c)
move-steady f (kinds.List list) row c s = refl
move-steady f _ row c s = s

-- ---- the leaf that holds the mouse

module _ (d : Dialog) (lawful : IsLawfulDialog d) (p : Point) (at : IsPointOf p) (m : Modal) (steady : IsSteady d m) (ph : Phase)
    (env : Env)
    (held : Held) (holding : m.held ≡ Some held) (leaf : PlacedNode) (found : leaf_at d held.id ≡ Some leaf) where
  abbrev here : Leaf
  here = leaf_as d m.leaves m leaf

  abbrev there : Point
  there = seen_point (around_of d leaf) p

  abbrev placed : Placed
  placed = placed_as d m.leaves m leaf

  abbrev own : Content
  own = content_at m leaf.node.id

  in-d : IsIn d leaf
  in-d = leaf_at-in d lawful held.id leaf found

  well : IsPlacedWell leaf
  well = well-in d lawful p at leaf in-d

  inside : points.leaf_has_point here there ≡ mouse.is_inside leaf p
  inside = inside-seen d leaf p well at

  row : points.row_of here there ≡ mouse.row_on leaf p
  row = row-seen d leaf p well at

  holds_it : holds_mouse here ≡ true
  holds_it = ap has_item (held-remembered d m held holding leaf found)

  -- the leaf holds something else
  abbrev with : Content → Placed
  with c = record placed { leaf = fields.with_content c here }

  unchanged : (change : Placed → Placed) → change placed ≡ placed → map (where_id d lawful leaf.node.id change) (tree_of d m) ≡ tree_of d m
  unchanged change same = tree-at d lawful leaf change m.leaves m.leaves m m in-d same (λ other e apart. refl)

  -- ---- moves

  abbrev at_row : Content
  at_row = move_content leaf.node.kind (mouse.row_on leaf p) own

  moved_by : Bool → Bool → ℕ → Placed
  moved_by b c n = record placed { leaf = if b && c then fields.with_content (move_content leaf.node.kind n own) here else here }

  move_placed : placed_after (events.Move p) ph env placed ≡ (if mouse.is_inside leaf p then with at_row else placed)
  unfolding handled moved_by
  move_placed =
      ap (λ e. record placed { leaf = handled e ph env here }) (move-seen (around_of d leaf) p)
      ∙ ap (λ b. moved_by b (points.leaf_has_point here there) (points.row_of here there)) holds_it
      ∙ ap (λ b. moved_by true b (points.row_of here there)) inside
      ∙ ap (moved_by true (mouse.is_inside leaf p)) row
      ∙ bool_cases (mouse.is_inside leaf p) (λ b. moved_by true b (mouse.row_on leaf p) ≡ (if b then with at_row else placed)) (λ is. refl)
      (λ is. refl)

  move_tree : map (where_id d lawful leaf.node.id (placed_after (events.Move p) ph env)) (tree_of d m)
      ≡ tree_of d (mouse.moved_on d leaf p m)
  move_tree =
      bool_cases (mouse.is_inside leaf p)
      (λ b. placed_after (events.Move p) ph env placed ≡ (if b then with at_row else placed)
      → map (where_id d lawful leaf.node.id (placed_after (events.Move p) ph env)) (tree_of d m)
      ≡ tree_of d (if b then content_put d leaf.node.id at_row m else m))
      (λ is e. tree-with_hold d lawful m steady leaf in-d at_row (move-value leaf.node.kind (mouse.row_on leaf p) own) m.held
      (placed_after (events.Move p) ph env) e (λ other apart. refl))
      (λ is e. unchanged (placed_after (events.Move p) ph env) e)
      move_placed

  move_steady : IsSteady d (mouse.moved_on d leaf p m)
  move_steady =
      bool_cases (mouse.is_inside leaf p) (λ b. IsSteady d (if b then content_put d leaf.node.id at_row m else m))
      (λ is. steady-changed d lawful m leaf.node.id at_row steady
      (λ other e. let both : Some leaf ≡ Some other = sym in-d ∙ e in let one : leaf ≡ other = cc in
      subst (λ (y : PlacedNode). IsSteadyContent (y.node.id.0 == m.focus.0) y.node.kind at_row) one
      (move-steady (leaf.node.id.0 == m.focus.0) leaf.node.kind (mouse.row_on leaf p) own (steady-leaf d lawful m steady leaf in-d))))
      (λ is. steady)

  move_hold : HoldSame d m.leaves (mouse.moved_on d leaf p m).leaves
  move_hold =
      bool_cases (mouse.is_inside leaf p) (λ b. HoldSame d m.leaves (if b then content_put d leaf.node.id at_row m else m).leaves)
      (λ is. hold-kept d lawful m steady leaf in-d at_row (move-value leaf.node.kind (mouse.row_on leaf p) own))
      (λ is. hold-itself d m.leaves)

  move_held : (mouse.moved_on d leaf p m).held ≡ m.held
  move_held = bool_cases (mouse.is_inside leaf p) (λ b. (if b then content_put d leaf.node.id at_row m else m).held ≡ m.held) (λ is. refl)
      (λ is. refl)

  move_answered : group_answer (events.Move p) ph env (tree_of d m) ≡ Done
  unfolding group_answer
  move_answered =
      scan-held d lawful m (events.Move p) ph env (λ other. takes-move d m.leaves m p ph env other) held holding leaf found
      ∙ move-answer d m.leaves m p ph env leaf
      ∙ ap (λ b. if b then Done else Pass) holds_it

  move_after : group_after (events.Move p) ph env (tree_of d m) ≡ tree_of d (mouse.moved_on d leaf p m)
  unfolding group_after
  move_after = scan_after-held d lawful m (events.Move p) ph env (λ other. takes-move d m.leaves m p ph env other) held holding leaf found
      ∙ move_tree

-- a move goes to the leaf that holds the mouse
pub record IsMoved (d : Dialog) (m : Modal) (ph : Phase) (env : Env) (p : Point) (after : Modal) : Type 0 where
  pub answer : group_answer (events.Move p) ph env (tree_of d m) ≡ Done
  pub tree : group_after (events.Move p) ph env (tree_of d m) ≡ tree_of d after
  pub steady : IsSteady d after
  pub held : after.held ≡ m.held
  pub like : IsLike m after
  -- every rule holds as it did
  pub holds : HoldSame d m.leaves after.leaves

pub move-turn : (d : Dialog) → IsLawfulDialog d → (p : Point) → IsPointOf p → (m : Modal) → IsSteady d m → (ph : Phase) (env : Env)
    → (held : Held) → m.held ≡ Some held → IsTrue (is_some (leaf_at d held.id))
    → IsMoved d m ph env p (held_moved d (leaf_at d held.id) p m)
move-turn d lawful p at m steady ph env held holding is_leaf =
    option_cases (leaf_at d held.id) (λ o. leaf_at d held.id ≡ o → IsMoved d m ph env p (held_moved d o p m))
    (λ none e. (let f : false ≡ true = ap is_some (sym none) ∙ is_leaf in absurd cc))
    (λ leaf some e. record {
      answer = move_answered d lawful p at m steady ph env held holding leaf e;
      tree = move_after d lawful p at m steady ph env held holding leaf e;
      steady = move_steady d lawful p at m steady ph env held holding leaf e;
      like = bool_cases (mouse.is_inside leaf p)
          (λ b. IsLike m (if b then content_put d leaf.node.id (move_content leaf.node.kind (mouse.row_on leaf p) (content_at m leaf.node.id)) m else m))
          (λ is. record { focus = refl; log = refl; ended = refl }) (λ is. record { focus = refl; log = refl; ended = refl });
      held = move_held d lawful p at m steady ph env held holding leaf e;
      holds = move_hold d lawful p at m steady ph env held holding leaf e;
    }) refl
