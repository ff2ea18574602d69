-- What a fresh body may be handed, and the head that a button's node lacks.
use Rattle.std.proofs.Common.{◌≡◌, ◌≤◌, List, [], map, length, arith, sym, subst}
use Rattle.std.specs.Prelude.{IfSome}
use Rattle.std.proofs.lemmas.List.{length-map}
use Rattle.std.proofs.lemmas.List.Elements.{All-map}
use Rattle.tv_model.specs.declared.node.Node.{Node}
use Rattle.tv_model.specs.declared.kind.Button.{Button}
use Rattle.tv_model.specs.declared.kind.Kind.TheVariants as kinds
use Rattle.tv_view.specs.Meaning.{Leaf}
use Rattle.tv_model.specs.Log.Record.{Entries}
use Rattle.tv_machine.specs.Leaves.{leaf_list}
use Rattle.tv_view.specs.Calls.{Fits}
use Rattle.tv_group.specs.Calls.{FitsAll, HasRoomForAll}
use Rattle.tv_group.specs.Opened.{opened}
use Rattle.tv_group.specs.Outline.{IsFreshBody, body_bounds}
use Rattle.tv_group.specs.declared.group.GroupOf.{GroupOf}
use Rattle.tv_group.proofs.TreeLemmas.{fresh_placed, opened-fresh}
use Rattle.tv_dialog.specs.Head as heads
use Rattle.tv_dialog.specs.Head.{declared_dialog_head}
use Rattle.tv_group.proofs.Tree.EndingLemmas.{fewer_leaves}
use Rattle.tv_dialog.proofs.FirstRecordLemmas.{few-room}
use Rattle.tv_machine.proofs.LeafLemmas.{leaves-all}
use Rattle.tv_run_tests.specs.Fitting.{FitsView, FitsViews}

module _ {V : Type 0} (look : V → Leaf) (owner : Node) (views : List Node) (g : GroupOf V) (fresh : IsFreshBody look owner views g) where
  -- a record that fits the views fits the body
  pub fresh_fits : (entries : Entries) → FitsViews entries views → FitsAll entries (opened look g)
  unfolding Fits
  fresh_fits entries fit =
      subst (FitsAll entries) (sym (opened-fresh look owner views g fresh))
      (All-map (λ x. Fits entries x.leaf) (fresh_placed (body_bounds owner)) (leaf_list views) (leaves-all (FitsView entries) [] views fit))

  -- a record has room for the values of so few views
  pub fresh_room : length views ≤ 64 → HasRoomForAll (opened look g) []
  fresh_room few =
      let same : length (map (fresh_placed (body_bounds owner)) (leaf_list views)) ≡ length (leaf_list views) = length-map (leaf_list views) (fresh_placed (body_bounds owner)) in
      let fewer = fewer_leaves [] views in
      subst (λ xs. HasRoomForAll xs []) (sym (opened-fresh look owner views g fresh))
      (few-room (map (fresh_placed (body_bounds owner)) (leaf_list views)) [] (omega (arith, fewer, few, same)))

-- a button's node has no head
pub button_headless : (node : Node) (own : Button) → node.kind ≡ kinds.Button own → IfSome (declared_dialog_head node) heads.IsLimitedDialogHead
button_headless node own is = rw is tt
