use Rattle.std.proofs.Common.{refl, sym, ◌∙◌}
use Rattle.tv_play.proofs.MonitorLemmas.{renotes-none, renotes-written}
use Rattle.tv_play.proofs.ShownLemmas.{none-is}
use Rattle.tv_play.proofs.monitor.Monitor.note.Goals as goal

pub returns-then-self : goal.returns-then-self
returns-then-self g c = λ s stands is. renotes-written refl refl c.is_some-self.ensures (c.write_note.ensures.writes s stands is)

pub returns-else-is_some : goal.returns-else-is_some
returns-else-is_some g c = λ s stands is. renotes-none c.if-self.false (none-is c.args.refusal (sym c.is_some.ensures ∙ c.if-is_some.false))
