use Rattle.std.proofs.Common.{◌≡◌, [], List, Some, chars, sym}
use Rattle.std.specs.Prelude.{IfSome}
use Rattle.std.proofs.lemmas.Result.{IfOk-weaker}
use Rattle.tv_words.specs.declared.word.Word.{Word}
use Rattle.tv_words.specs.declared.scan.Mode.TheVariants.{Between}
use Rattle.tv_words.specs.Words.{SpellsWords}
use Rattle.tv_words.specs.Reading.Scan.{at, read_on}
use Rattle.tv_words.proofs.LineWordLemmas.{scanned_spelled, scanned_only}
use Rattle.tv_words.proofs.scan.words_of.Goals as goal

pub returns-clause-spelled : goal.returns-clause-spelled
returns-clause-spelled c = IfOk-weaker c.scan.result (λ found. found ≡ read_on (at [] Between) (chars c.in-Ok.text.now)) (λ found. IfSome found (λ ws. SpellsWords c.args.line.now ws)) (scanned_spelled c.args.line.now c.in-Ok.text.now c.in-Ok.ensures.cases.0 c.in-Ok.ensures.cases.1 (sym c.if-has_control.ensures) (sym c.if-is_comment.ensures)) c.scan.ensures

pub returns-clause-only : goal.returns-clause-only
returns-clause-only c = IfOk-weaker c.scan.result (λ found. found ≡ read_on (at [] Between) (chars c.in-Ok.text.now)) (λ found. (ws : List Word) → SpellsWords c.args.line.now ws → found ≡ Some ws) (scanned_only c.args.line.now c.in-Ok.text.now c.in-Ok.ensures.cases.0 c.in-Ok.ensures.cases.1 (sym c.if-has_control.ensures) (sym c.if-is_comment.ensures)) c.scan.ensures
