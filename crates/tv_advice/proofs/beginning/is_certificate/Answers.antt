use Rattle.std.proofs.Common.{ap, ◌∙◌}
use Rattle.tv_words.specs.LinesLeft.{lines_left}
use Rattle.tv_advice.specs.Beginnings.{first_answer}
use Rattle.tv_advice.proofs.beginning.is_certificate.Goals as goal

pub loop-line-init : goal.loop-line-init
loop-line-init c = ap first_answer (ap lines_left c.into_iter-line-iterator.ensures.into_iter_gives ∙ c.new-line-items.ensures)
