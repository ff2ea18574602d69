-- No two leaves of a dialog have an id.
use Rattle.std.proofs.Common.{◌≡◌, ℕ, Bool, ◌<◌, ◌==◌, List, [], ◌∷◌, is_some, if◌then◌else◌, arith}
use Rattle.std.specs.List.{AllPairs}
use Rattle.std.proofs.lemmas.Bool.{eqb-true}
use Rattle.std.proofs.lemmas.List.Kept.{AllPairs-cons}
use Rattle.tv_model.specs.declared.node.Id.{Id}
use Rattle.tv_model.specs.declared.node.Node.{Node}
use Rattle.tv_model.specs.declared.desc.Dialog.{Dialog}
use Rattle.tv_model.specs.Description.Nodes.{is_pane}
use Rattle.tv_model.specs.Description.Owners.{owner_by}
use Rattle.tv_machine.specs.Leaves.{PlacedNode, leaf_list, leaves_in, open_after, open_at}
use Rattle.tv_machine.specs.Dialog.Lawful.{IsLawfulDialog}
use Rattle.tv_group.proofs.Tree.FirstLemmas.{AtMostOne, NotBoth}
use Rattle.tv_machine.proofs.ListLemmas.{bool_cases, pairs-head, pairs-tail}
use Rattle.tv_machine.proofs.LeafLemmas.{leaves-all}

-- the leaf has the id
abbrev pub has_leaf_id : Id → PlacedNode → Bool
has_leaf_id i leaf = leaf.node.id.0 == i.0

-- the leaf marks the letter
abbrev pub marks_letter : ℕ → PlacedNode → Bool
marks_letter letter leaf = is_some (owner_by letter leaf.node.kind)

-- what holds of views holds of leaves
abbrev OfNodes : (Node → Node → Type 0) → PlacedNode → PlacedNode → Type 0
OfNodes R leaf other = R leaf.node other.node

none-paired : {A : Type 0} (R : A → A → Type 0) → AllPairs R []
none-paired R i j d less within = absurd (omega arith)

leaves-pairs : (R : Node → Node → Type 0) (panes views : List Node) → AllPairs R views → AllPairs (OfNodes R) (leaves_in panes views)
leaves-pairs R panes [] pairs = none-paired (OfNodes R)
leaves-pairs R panes (view ∷ views) pairs =
    let rest = leaves_in (open_after panes view) views in
    let more = leaves-pairs R (open_after panes view) views (pairs-tail R view views pairs) in
    bool_cases (is_pane view.kind)
    (λ b. AllPairs (OfNodes R) (if b then rest else record { node = view; panes = open_at view.depth panes } ∷ rest))
    (λ is. more)
    (λ is. AllPairs-cons (OfNodes R) (record { node = view; panes = open_at view.depth panes }) rest
    (leaves-all (R view) (open_after panes view) views (pairs-head R view views pairs)) more)

-- what holds of each pair as one relation says holds as another that follows
pairs-weaker : {A : Type 0} (R S : A → A → Type 0) (xs : List A) → ((x y : A) → R x y → S x y) → AllPairs R xs → AllPairs S xs
pairs-weaker R S xs weaker pairs i j d less within = weaker _ _ (pairs i j d less within)

abbrev Rising : Node → Node → Type 0
Rising view later = view.id.0 < later.id.0

module _ (d : Dialog) (lawful : IsLawfulDialog d) where
  pub ids_differ : (i : Id) → AtMostOne (has_leaf_id i) (leaf_list d.views)
  ids_differ i =
      pairs-weaker (OfNodes Rising) (NotBoth (has_leaf_id i)) (leaf_list d.views)
      (λ leaf later less here there.
      let one : leaf.node.id.0 ≡ i.0 = eqb-true leaf.node.id.0 i.0 here in
      let two : later.node.id.0 ≡ i.0 = eqb-true later.node.id.0 i.0 there in
      omega arith)
      (leaves-pairs Rising [] d.views (pairs-tail Rising d.node d.views lawful.rising))
