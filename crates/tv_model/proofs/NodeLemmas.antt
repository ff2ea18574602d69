-- A search for a node, list by list.
use Rattle.std.proofs.Common.{◌≡◌, ℕ, ◌+◌, ◌<◌, List, [], ◌∷◌, ◌++◌, length, get_or, suc, drop, flat_map, Option, Some, None, sym, ap, ◌∙◌, append_assoc, add-one, drop-cons}
use Rattle.std.specs.Option.{option_or}
use Rattle.std.proofs.lemmas.List.{append-nil}
use Rattle.std.proofs.lemmas.List.Folds.{find-append}
use Rattle.tv_model.specs.declared.node.Id.{Id}
use Rattle.tv_model.specs.declared.node.Node.{Node}
use Rattle.tv_model.specs.Description.Nodes.{has_id, node_of}

module _ {X : Type 0} (f : X → List Node) (id : Id) (rest : List Node) (xs : List X) (i : ℕ) (x : X) (whole : Option Node) where
  parts : i < length xs → x ≡ get_or xs i x → flat_map f (drop i xs) ++ rest ≡ f x ++ (flat_map f (drop (i + 1) xs) ++ rest)
  parts less is =
      let first : drop i xs ≡ x ∷ drop (i + 1) xs = rw add-one (drop-cons xs i x less ∙ ap (λ y. y ∷ drop (suc i) xs) (sym is)) in
      ap (λ ys. flat_map f ys ++ rest) first ∙ append_assoc (f x) (flat_map f (drop (i + 1) xs)) rest

  search : i < length xs → x ≡ get_or xs i x → whole ≡ node_of (flat_map f (drop i xs) ++ rest) id → whole ≡ option_or (node_of (f x) id) (node_of (flat_map f (drop (i + 1) xs) ++ rest) id)
  search less is same = same ∙ ap (λ ys. node_of ys id) (parts less is) ∙ find-append (has_id id) (f x) (flat_map f (drop (i + 1) xs) ++ rest)

  -- the node is found in the next list
  pub found : (node : Node) → i < length xs → x ≡ get_or xs i x → whole ≡ node_of (flat_map f (drop i xs) ++ rest) id → Some node ≡ node_of (f x) id → Some node ≡ whole
  found node less is same here = sym (search less is same ∙ ap (λ o. option_or o (node_of (flat_map f (drop (i + 1) xs) ++ rest) id)) (sym here))

  -- the node isn't in the next list
  pub missed : i < length xs → x ≡ get_or xs i x → whole ≡ node_of (flat_map f (drop i xs) ++ rest) id → None ≡ node_of (f x) id → whole ≡ node_of (flat_map f (drop (i + 1) xs) ++ rest) id
  missed less is same here = search less is same ∙ ap (λ o. option_or o (node_of (flat_map f (drop (i + 1) xs) ++ rest) id)) (sym here)

-- the same with nothing behind the lists
module _ {X : Type 0} (f : X → List Node) (id : Id) (xs : List X) (i : ℕ) (x : X) (whole : Option Node) (less : i < length xs) (is : x ≡ get_or xs i x) (same : whole ≡ node_of (flat_map f (drop i xs)) id) where
  before : whole ≡ node_of (flat_map f (drop i xs) ++ []) id
  before = same ∙ ap (λ ys. node_of ys id) (sym (append-nil (flat_map f (drop i xs))))

  pub found_last : (node : Node) → Some node ≡ node_of (f x) id → Some node ≡ whole
  found_last node here = found f id [] xs i x whole node less is before here

  pub missed_last : None ≡ node_of (f x) id → whole ≡ node_of (flat_map f (drop (i + 1) xs)) id
  missed_last here = missed f id [] xs i x whole less is before here ∙ ap (λ ys. node_of ys id) (append-nil (flat_map f (drop (i + 1) xs)))
