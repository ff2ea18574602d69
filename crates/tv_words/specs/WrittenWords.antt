-- The words that are written.
use Rattle.tv_words.specs.declared.word.Word.{Word}
use Rattle.tv_words.specs.declared.word.Word.TheVariants.{Bare, Quoted}
use Rattle.tv_words.specs.declared.written.WrittenText.{WrittenText}
use Rattle.tv_words.specs.declared.written.WrittenText.TheVariants as texts

-- the word of these characters
abbrev pub written_word : WrittenText → Word
written_word (texts.Ascii text) = Bare text.now
written_word (texts.Bare text) = Bare text.now
written_word (texts.Quoted text) = Quoted text.now
written_word (texts.Own word) = word
