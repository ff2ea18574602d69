-- Lines of few words, and of many.
use Rattle.std.proofs.Common.{◌≡◌, ◌<◌, ◌==◌, ℕ, List, [], ◌∷◌, false, length, min, refl, arith}
use Rattle.std.specs.List.{list_all}
use Rattle.tv_words.specs.declared.word.Word.{Word}
use Rattle.tv_answers.specs.FieldValues.{is_dash, marks_among, marks_in}
use Rattle.tv_answers.specs.LogLines.{is_number, is_value}

-- several words are a value where they are numbers
pub many_values : (ws : List Word) → 1 < length ws → list_all is_number ws ≡ is_value ws
many_values [] many = absurd (omega (arith, many))
many_values (w ∷ []) many = absurd (omega (arith, many))
many_values (w ∷ v ∷ ws) many = refl

-- words that mark something name items
pub marks_by_items : (count : ℕ) (ws : List Word) → false ≡ (length ws == 0) → false ≡ is_dash ws → marks_among (min count 16) ws ≡ marks_in count ws
marks_by_items count [] some not = absurd cc
marks_by_items count (w ∷ ws) some not = rw (← not) refl
