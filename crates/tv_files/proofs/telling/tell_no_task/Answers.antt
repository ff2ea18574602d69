use Rattle.std.proofs.Common.{subst}
use Rattle.tv_files.specs.Telling.{TellsUsage}
use Rattle.tv_files.proofs.telling.tell_no_task.Goals as goal

pub returns-in-Usage : goal.returns-in-Usage
returns-in-Usage g c =
    rw c.in-Usage.is (subst (λ text. TellsUsage text (g.E.Writer.seen c.args.err.now) (g.E.Writer.seen c.tell_usage.new.err) c.tell_usage.result) c.as_str.ensures.value c.tell_usage.ensures)
