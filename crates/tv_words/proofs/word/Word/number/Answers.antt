use Rattle.std.proofs.Common.{◌≡◌, ap, sym, ◌∙◌}
use Rattle.tv_words.specs.Reading.Numbers.{number_in, number_of}
use Rattle.tv_words.proofs.FieldLemmas.{number_said, read_number_word}
use Rattle.tv_words.proofs.word.Word.number.Goals as goal

pub returns-in-Bare-clause-word : goal.returns-in-Bare-clause-word
returns-in-Bare-clause-word c =
    let read : c.number.result ≡ number_in c.args.self.now = c.number.ensures ∙ ap number_of c.as_slice.ensures ∙ ap number_in (sym c.in-Bare.is) in
    number_said c.args.self.now c.number.result read

pub returns-in-Bare-clause-only : goal.returns-in-Bare-clause-only
returns-in-Bare-clause-only c n fits is =
    c.number.ensures ∙ ap number_of c.as_slice.ensures ∙ ap number_in (sym c.in-Bare.is) ∙ ap number_in is ∙ read_number_word n fits
