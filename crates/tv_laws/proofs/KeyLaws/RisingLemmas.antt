-- The free controls of a dialog stand in the order of its lines, none twice.
use Rattle.std.proofs.Common.{◌<◌, if◌then◌else◌, List, [], ◌∷◌, map, filter, AllPairs, arith}
use Rattle.std.proofs.lemmas.List.Elements.{All-map}
use Rattle.std.proofs.lemmas.List.Kept.{AllPairs-cons, AllPairs-filter}
use Rattle.tv_model.specs.declared.node.Id.{Id}
use Rattle.tv_model.specs.declared.node.Node.{Node}
use Rattle.tv_model.specs.declared.desc.Dialog.{Dialog}
use Rattle.tv_model.specs.Description.Nodes.{is_pane}
use Rattle.tv_machine.specs.State.{LeafState}
use Rattle.tv_machine.specs.Leaves.{PlacedNode, leaf_list, leaves_in, open_after, open_at}
use Rattle.tv_machine.specs.Dialog.Focus.{Stop, stop_of, stops_of}
use Rattle.tv_laws.specs.Order.{free_controls}
use Rattle.tv_laws.specs.Sound.{IsSoundDialog}
use Rattle.tv_machine.proofs.LeafLemmas.{leaves-all}
use Rattle.tv_machine.proofs.ListLemmas.{bool_cases, pairs-head, pairs-tail}
use Rattle.tv_laws.proofs.KeyLaws.StopLemmas.{stop_id}

pairs-nil : {A : Type 0} (R : A → A → Type 0) → AllPairs R []
pairs-nil R i j d less h = absurd (omega arith)

pairs-map : {A B : Type 0} (R : B → B → Type 0) (f : A → B) (xs : List A) → AllPairs (λ x y. R (f x) (f y)) xs → AllPairs R (map f xs)
pairs-map R f [] pairs = pairs-nil R
pairs-map R f (x ∷ xs) pairs =
    AllPairs-cons R (f x) (map f xs) (All-map (R (f x)) f xs (pairs-head (λ a b. R (f a) (f b)) x xs pairs))
    (pairs-map R f xs (pairs-tail (λ a b. R (f a) (f b)) x xs pairs))

abbrev NodesRise : Node → Node → Type 0
NodesRise node later = node.id.0 < later.id.0

abbrev LeavesRise : PlacedNode → PlacedNode → Type 0
LeavesRise leaf later = leaf.node.id.0 < later.node.id.0

abbrev StopsRise : Stop → Stop → Type 0
StopsRise stop later = stop.id.0 < later.id.0

abbrev IdsRise : Id → Id → Type 0
IdsRise i later = i.0 < later.0

leaves-rising : (panes views : List Node) → AllPairs NodesRise views → AllPairs LeavesRise (leaves_in panes views)
leaves-rising panes [] pairs = pairs-nil LeavesRise
leaves-rising panes (view ∷ views) pairs =
    let leaf : PlacedNode = record { node = view; panes = open_at view.depth panes } in
    let rest = leaves_in (open_after panes view) views in
    let more = leaves-rising (open_after panes view) views (pairs-tail NodesRise view views pairs) in
    bool_cases (is_pane view.kind) (λ b. AllPairs LeavesRise (if b then rest else leaf ∷ rest)) (λ is. more)
    (λ is. AllPairs-cons LeavesRise leaf rest (leaves-all (λ node. view.id.0 < node.id.0) (open_after panes view) views (pairs-head NodesRise view views pairs)) more)

pub free-rising : (d : Dialog) → IsSoundDialog d → (leaves : List LeafState) → AllPairs IdsRise (free_controls d leaves)
free-rising d sound leaves =
    let nodes = pairs-tail NodesRise d.node d.views sound.lawful.rising in
    let stops = pairs-map StopsRise (stop_of d leaves) (leaf_list d.views) (leaves-rising [] d.views nodes) in
    pairs-map IdsRise stop_id (filter (λ stop. stop.is_free) (stops_of d leaves)) (AllPairs-filter StopsRise (λ stop. stop.is_free) (stops_of d leaves) stops)
