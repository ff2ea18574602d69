use Rattle.std.proofs.Common.{ap}
use Rattle.tv_model.specs.Log.LogText.{log_line}
use Rattle.tv_io.proofs.PenLemmas.{Puts-more, Puts-along}
use Rattle.tv_script.proofs.lines.put_log.Goals as goal

pub loop-line-preserved : goal.loop-line-preserved
loop-line-preserved g c =
    Puts-more (log_line c.args.desc.now) c.args.lines.now c.loop-line.line-index c.line-item.result c.loop-line-test.true c.loop-line.invariant (Puts-along (ap (log_line c.args.desc.now) c.line-item.is) c.put_line.ensures)
