-- What a line of a script comes to, by what it is read as.
use Rattle.std.proofs.Common.{◌≡◌, ℕ, ℤ, List, [], ◌∷◌, Option, Some, None, refl}
use Rattle.std.specs.Option.{option_map}
use Rattle.tv_machine.specs.declared.script.Item.{Item}
use Rattle.tv_script.specs.Line.{Line}
use Rattle.tv_script.specs.Reading.Lines.{line_read, script_line_in, words_read}
use Rattle.tv_script.specs.Reading.Scripts.{with_bytes, with_found, with_read, with_words}
use Rattle.tv_words.specs.declared.word.Word.{Word}
use Rattle.tv_words.specs.Reading.LineWords.{line_words}

module _ (width height : ℤ) (n : ℕ) (items : List Item) where
  by_found : (o : Option Line) → with_found width height n items o ≡ with_read width height n items (option_map Some o)
  by_found None = refl
  by_found (Some l) = refl

  by_words : (o : Option (List Word)) → with_words width height n items o ≡ with_read width height n items (words_read o)
  by_words None = refl
  by_words (Some []) = refl
  by_words (Some (w ∷ ws)) = by_found (script_line_in (w ∷ ws))

  pub by_line : (line : List ℕ) → with_bytes width height n items line ≡ with_read width height n items (line_read line)
  by_line line = by_words (line_words line)
