-- What a line that is judged in place comes to.
use Rattle.std.proofs.Common.{◌≡◌, ℕ, Bool, true, false, cond, List, [], ◌∷◌, length, nat_le, Option, Some, None, option_and_then, refl, ap, ◌∙◌}
use Rattle.tv_script.specs.Reading.Lines.{line_read, words_read}
use Rattle.tv_words.specs.declared.word.Word.{Word}
use Rattle.tv_words.specs.Reading.LineWords.{line_words}
use Rattle.tv_words.specs.Tokens.{at_most_three}

few_if : (a b c d : Word) (ws : List Word) (few : Bool) → words_read (cond few (Some (a ∷ b ∷ c ∷ d ∷ ws)) None) ≡ None
few_if a b c d ws true = refl
few_if a b c d ws false = refl

-- more than three words are no line
few_read : (o : Option (List Word)) → words_read (option_and_then at_most_three o) ≡ words_read o
few_read None = refl
few_read (Some []) = refl
few_read (Some (a ∷ [])) = refl
few_read (Some (a ∷ b ∷ [])) = refl
few_read (Some (a ∷ b ∷ c ∷ [])) = refl
few_read (Some (a ∷ b ∷ c ∷ d ∷ ws)) = few_if a b c d ws (nat_le (length (a ∷ b ∷ c ∷ d ∷ ws)) 3)

-- a line is read by its words where there are no more than three
pub tokens_read : (line : List ℕ) (o : Option (List Word)) → o ≡ option_and_then at_most_three (line_words line) → words_read o ≡ line_read line
tokens_read line o e = ap words_read e ∙ few_read (line_words line)
