-- What a line's words say of the text.
use Rattle.std.proofs.Common.{◌≡◌, ℕ, List, Option, Some, ap}
use Rattle.std.specs.Prelude.{IfSome}
use Rattle.tv_words.specs.Words.{SpellsWords}
use Rattle.tv_words.specs.declared.word.Word.{Word}
use Rattle.tv_words.proofs.LineWordLemmas.{found_words}
use Rattle.tv_advice.specs.Beginnings.{answer_by, answer_of}

-- what is found in a line says whether it begins a certificate
pub answer_found : (line : List ℕ) (found : Option (List Word)) → IfSome found (λ ws. SpellsWords line ws) → ((ws : List Word) → SpellsWords line ws → found ≡ Some ws) → answer_by found ≡ answer_of line
answer_found line found spelled only = ap answer_by (found_words line found spelled only)
