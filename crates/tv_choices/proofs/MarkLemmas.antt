-- The marks that check boxes start with.
use Rattle.std.proofs.Common.{◌≡◌, ◌∙◌, ◌-◌, ◌<◌, ◌≤◌, ◌^◌, ℕ, List, ℤ, ap, arith, bit_or, drop, get_or, length, suc, sym}
use Rattle.std.proofs.Math.Seq.{drop-cons}
use Rattle.std.proofs.lemmas.Int.{ints}
use Rattle.std.proofs.lemmas.List.Elements.{All-weaker}
use Rattle.std.proofs.lemmas.Nat.{or_comm}
use Rattle.std.specs.List.{All}
use Rattle.tv_model.specs.Controls.Contents.{IsItem}
use Rattle.tv_model.specs.Description.Numbers.{natural}
use Rattle.tv_model.specs.Kinds.Cluster.{marks_of}

-- of one item more
pub marks-more : (items : List ℤ) (i : ℕ) (d : ℤ) (marks : ℕ) → i < length items → marks ≡ marks_of (drop (suc i) items)
    → bit_or marks (2 ^ (natural (get_or items i d) - 1)) ≡ marks_of (drop i items)
marks-more items i d marks within e =
    or_comm marks (2 ^ (natural (get_or items i d) - 1))
    ∙ (ap (λ others. bit_or (2 ^ (natural (get_or items i d) - 1)) others) e ∙ sym (ap marks_of (drop-cons items i d within)))

-- items of a cluster are at most the sixteenth
pub items-few : (count : ℕ) → count ≤ 16 → (items : List ℤ) → All (λ item. IsItem item count) items → All (λ item. IsItem item 16) items
items-few count few items all =
    All-weaker (λ item. IsItem item count) (λ item. IsItem item 16) (λ item is. (is.0, omega (arith, ints, is.1, few))) items all
