-- A leaf as its node declares it fits a record that has a value of the node's kind.
use Rattle.std.proofs.Common.{◌≡◌, ◌==◌, ◌∙◌, if◌then◌else◌, Option, Bool, true, ℕ, ap, arith, subst, sym}
use Rattle.std.proofs.lemmas.Bool.Decides.{nat_tests}
use Rattle.tv_model.specs.declared.node.Node.{Node}
use Rattle.tv_model.specs.declared.record.Value.{Value}
use Rattle.tv_view.specs.Meaning.{Leaf, fresh}
use Rattle.tv_model.specs.Log.Record.{Entries, value_of}
use Rattle.tv_view.specs.Calls.{Fits, IsFieldValue}

same : (n : ℕ) → (n == n) ≡ true
same n = grind (arith, nat_tests)

own_value : (n : ℕ) (own other : Option Value) → (if n == n then own else other) ≡ own
own_value n own other = ap (λ (b : Bool). if b then own else other) (same n)

fits : (node : Node) (entries : Entries) (value : Option Value) → value_of entries node.id.0 ≡ value → IsFieldValue node.kind value → Fits entries (fresh node)
unfolding Fits
fits node entries value has may = subst (IsFieldValue node.kind) (sym has) may

pub fits_fresh :
    (leaf : Leaf) (node : Node) (entries : Entries) (value other : Option Value)
    → leaf ≡ fresh node → value_of entries node.id.0 ≡ (if node.id.0 == node.id.0 then value else other) → IsFieldValue node.kind value → Fits entries leaf
fits_fresh leaf node entries value other is has may =
    subst (Fits entries) (sym is) (fits node entries value (has ∙ own_value node.id.0 value other) may)
