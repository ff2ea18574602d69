use Rattle.std.proofs.Common.{◌≡◌, refl, ap, ◌∙◌, arith}
use Rattle.tv_words.specs.Lines.{lines_of}
use Rattle.tv_words.specs.LinesLeft.{lines_left}
use Rattle.tv_words.proofs.LineLemmas.{lines_le}
use Rattle.tv_advice.proofs.beginning.first_declared.Goals as goal

pub loop-line-init : goal.loop-line-init
loop-line-init c =
    let lines : lines_left c.into_iter-line-iterator.result ≡ lines_of c.args.text.now = ap lines_left c.into_iter-line-iterator.ensures.into_iter_gives ∙ c.new-line-items.ensures in
    rw lines (refl, omega (arith, lines_le c.args.text.now, c.requires.few))
