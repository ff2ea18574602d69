-- Moves and ups go to the leaf that holds the mouse, and all others pass them on.
use Rattle.std.proofs.Common.{◌≡◌, ℕ, Bool, true, false, not, ◌==◌, if◌then◌else◌, List, map, find, get_or, Option, Some, None, option_map, is_some, refl, sym, ap, ◌∙◌}
use Rattle.std.proofs.lemmas.List.Folds.{list_any_none}
use Rattle.std.specs.List.{list_any}
use Rattle.tv_cells.specs.declared.rect.Point.{Point}
use Rattle.tv_event.specs.declared.event.Event.{Event}
use Rattle.tv_event.specs.declared.event.Event.TheVariants as events
use Rattle.tv_event.specs.declared.event.Phase.{Phase}
use Rattle.tv_model.specs.declared.command.CommandSpec.{CommandSpec}
use Rattle.tv_model.specs.declared.node.Id.{Id}
use Rattle.tv_model.specs.declared.desc.Dialog.{Dialog}
use Rattle.tv_model.specs.Description.Commands.{command_of}
use Rattle.tv_view.specs.Meaning.{Leaf, has_item, holds_mouse}
use Rattle.tv_machine.specs.State.{LeafState, Held}
use Rattle.tv_machine.specs.Leaves.{PlacedNode, leaf_list}
use Rattle.tv_model.specs.Controls.Behaviour.{Answer, Passed, Becomes, Presses}
use Rattle.tv_machine.specs.Controls.Tables.{up_answer}
use Rattle.tv_machine.specs.Dialog.Modal.{Modal, leaf_at}
use Rattle.tv_view.specs.declared.env.Env.{Env}
use Rattle.tv_view.specs.declared.reaction.Reaction.TheVariants.{Pass, Done, Release}
use Rattle.tv_view.specs.Fields.{content_of}
use Rattle.tv_view.specs.Points as points
use Rattle.tv_view.specs.Reactions.{answer, lifted_answer, press_by, release_answer}
use Rattle.tv_group.specs.Calls.{any_holds}
use Rattle.tv_group.specs.Handling.{found_answer, is_pass, placed_after, placed_answer, scan_after, scan_answer, takes}
use Rattle.tv_machine.specs.Dialog.Lawful.{IsLawfulDialog}
use Rattle.tv_group.specs.Ready.{HoldsLeaf}
use Rattle.tv_group.specs.Tree.{around_of, held_at, leaf_as, placed_as, tree_as, tree_of}
use Rattle.tv_machine.proofs.ListLemmas.{any-map, any-same, find-same, found-among, id-itself, id-swap}
use Rattle.tv_group.proofs.Tree.TreeLemmas.{find-tree, first_changed-tree, where_id}
use Rattle.tv_machine.proofs.LeafLemmas.{leaf_at-is, leaf_id}
use Rattle.tv_group.proofs.Tree.Mouse.PlaceLemmas.{move-seen, seen_point, up-seen}

-- ---- who holds the mouse

item_if : (b : Bool) (item : ℕ) → has_item (if b then Some item else None) ≡ b
item_if true item = refl
item_if false item = refl

-- a leaf holds the mouse where it has the id
pub item-held : (held : Held) (i : Id) → has_item (held_at (Some held) i) ≡ (i.0 == held.id.0)
item-held held i = item_if (held.id.0 == i.0) held.item ∙ id-swap held.id i

pub any-holds : (d : Dialog) (ruled : List LeafState) (m : Modal) → HoldsLeaf d m → any_holds (tree_as d ruled m) ≡ is_some m.held
unfolding any_holds
any-holds d ruled m leafs = any-map (placed_as d ruled m) (λ x. holds_mouse x.leaf) (leaf_list d.views) ∙ of m.held refl
  where
    of : (o : Option Held) → m.held ≡ o → list_any (λ leaf. has_item (held_at m.held leaf.node.id)) (leaf_list d.views) ≡ is_some o
    of None e = list_any_none (λ leaf. has_item (held_at m.held leaf.node.id)) (leaf_list d.views)
        (λ k x h. ap (λ o. has_item (held_at o (get_or (leaf_list d.views) k x).node.id)) e)
    of (Some held) e =
        any-same (λ leaf. has_item (held_at m.held leaf.node.id)) (λ leaf. leaf.node.id.0 == held.id.0) (leaf_list d.views)
        (λ k x h. ap (λ o. has_item (held_at o (get_or (leaf_list d.views) k x).node.id)) e
        ∙ item-held held (get_or (leaf_list d.views) k x).node.id)
        ∙ sym (found-among leaf_id (leaf_list d.views) held.id ∙ any-map leaf_id (λ j. j.0 == held.id.0) (leaf_list d.views))
        ∙ leafs held e

-- ---- who takes moves and ups

takes_move : (b : Bool) → not (is_pass (if b then Done else Pass)) ≡ b
takes_move true = refl
takes_move false = refl

takes_press : (leaf : Leaf) (o : Option CommandSpec) → not (is_pass (press_by leaf o)) ≡ true
takes_press leaf None = refl
takes_press leaf (Some c) = refl

takes_release : (leaf : Leaf) (a : Answer) → not (is_pass (release_answer leaf a)) ≡ true
takes_release leaf Passed = refl
takes_release leaf (Becomes content) = refl
takes_release leaf Presses = takes_press leaf (command_of leaf.node.kind)

takes_up : (leaf : Leaf) (q : Point) (o : Option ℕ) → not (is_pass (lifted_answer leaf q o)) ≡ has_item o
takes_up leaf q None = refl
takes_up leaf q (Some item) = of (points.leaf_has_point leaf q)
  where
    a : Answer
    a = up_answer leaf.node.kind item (points.row_of leaf q) (content_of leaf)

    of : (b : Bool) → not (is_pass (if b then release_answer leaf a else Release)) ≡ true
    of true = takes_release leaf a
    of false = refl

module _ (d : Dialog) (ruled : List LeafState) (m : Modal) (p : Point) (ph : Phase) (env : Env) (leaf : PlacedNode) where
  abbrev standing : Leaf
  standing = leaf_as d ruled m leaf

  abbrev there : Point
  there = seen_point (around_of d leaf) p

  pub move-answer : placed_answer (events.Move p) ph env (placed_as d ruled m leaf) ≡ (if holds_mouse standing then Done else Pass)
  unfolding answer
  move-answer = ap (λ e. answer e ph env standing) (move-seen (around_of d leaf) p)

  pub up-answer : placed_answer (events.Up p) ph env (placed_as d ruled m leaf) ≡ lifted_answer standing there (held_at m.held leaf.node.id)
  unfolding answer
  up-answer = ap (λ e. answer e ph env standing) (up-seen (around_of d leaf) p)

  pub takes-move : takes (events.Move p) ph env (placed_as d ruled m leaf) ≡ has_item (held_at m.held leaf.node.id)
  takes-move = ap (λ r. not (is_pass r)) move-answer ∙ takes_move (holds_mouse standing)

  pub takes-up : takes (events.Up p) ph env (placed_as d ruled m leaf) ≡ has_item (held_at m.held leaf.node.id)
  takes-up = ap (λ r. not (is_pass r)) up-answer ∙ takes_up standing there (held_at m.held leaf.node.id)

-- ---- a scan of the tree

-- an event that a leaf takes where it holds the mouse
abbrev pub GoesToHeld : Dialog → Modal → Event → Phase → Env → Type 0
GoesToHeld d m e ph env = (leaf : PlacedNode) → takes e ph env (placed_as d m.leaves m leaf) ≡ has_item (held_at m.held leaf.node.id)

module _ (d : Dialog) (lawful : IsLawfulDialog d) (m : Modal) (e : Event) (ph : Phase) (env : Env) (goes : GoesToHeld d m e ph env) where
  -- a leaf holds it
  module _ (held : Held) (holding : m.held ≡ Some held) (leaf : PlacedNode) (found : leaf_at d held.id ≡ Some leaf) where
    one_takes : find (λ other. takes e ph env (placed_as d m.leaves m other)) (leaf_list d.views) ≡ Some leaf
    one_takes =
        find-same (λ other. takes e ph env (placed_as d m.leaves m other)) (λ other. other.node.id.0 == held.id.0) (leaf_list d.views)
        (λ k x h. goes (get_or (leaf_list d.views) k x)
        ∙ ap (λ o. has_item (held_at o (get_or (leaf_list d.views) k x).node.id)) holding
        ∙ item-held held (get_or (leaf_list d.views) k x).node.id)
        ∙ found

    pub scan-held : scan_answer e ph env (tree_of d m) ≡ placed_answer e ph env (placed_as d m.leaves m leaf)
    scan-held = ap (found_answer e ph env)
        (find-tree d lawful (takes e ph env) m.leaves m ∙ ap (option_map (placed_as d m.leaves m)) one_takes)

    pub scan_after-held : scan_after e ph env (tree_of d m) ≡ map (where_id d lawful leaf.node.id (placed_after e ph env)) (tree_of d m)
    scan_after-held = first_changed-tree d lawful (takes e ph env) (placed_after e ph env) m.leaves m leaf one_takes

-- what the leaf that holds the mouse remembers
pub held-remembered : (d : Dialog) (m : Modal) (held : Held) → m.held ≡ Some held → (leaf : PlacedNode) → leaf_at d held.id ≡ Some leaf
    → held_at m.held leaf.node.id ≡ Some held.item
held-remembered d m held holding leaf found =
    ap (λ o. held_at o leaf.node.id) holding
    ∙ ap (λ (i : Id). if held.id.0 == i.0 then Some held.item else None) (leaf_at-is d held.id leaf found)
    ∙ ap (λ b. if b then Some held.item else None) (id-itself held.id)

-- another leaf holds nothing
pub held-nothing : (d : Dialog) (m : Modal) (held : Held) → m.held ≡ Some held → (leaf other : PlacedNode) → leaf_at d held.id ≡ Some leaf
    → (other.node.id.0 == leaf.node.id.0) ≡ false → held_at m.held other.node.id ≡ None
held-nothing d m held holding leaf other found apart =
    ap (λ o. held_at o other.node.id) holding
    ∙ ap (λ b. if b then Some held.item else None)
    (id-swap held.id other.node.id ∙ ap (λ (i : Id). other.node.id.0 == i.0) (sym (leaf_at-is d held.id leaf found)) ∙ apart)

-- ---- while nothing holds the mouse
