-- What stands on a line of the canonical text.
use Rattle.std.specs.Prelude.{ℕ, Bool, ◌==◌, nat_le, List, find, reverse, Option, option_map}
use Rattle.tv_model.specs.declared.node.Node.{Node}
use Rattle.std.specs.List.{before_first}

-- the first item that passes the test, with those before it
abbrev pub first_after : {A : Type 0} → (A → Bool) → List A → Option (List A × A)
first_after p items = option_map (λ item. (before_first p items, item)) (find p items)

-- the declaration on the line, with those before it
abbrev pub at_line : {A : Type 0} → (A → ℕ) → ℕ → List A → Option (List A × A)
at_line number line items = first_after (λ item. number item == line) items

-- the last declaration that begins on the line or before it
abbrev pub around_line : {A : Type 0} → (A → ℕ) → ℕ → List A → Option A
around_line number line items = find (λ item. nat_le (number item) line) (reverse items)

-- the line of a node that was found
abbrev pub node_line : Option Node → Option ℕ
node_line found = option_map (λ node. node.id.0) found
