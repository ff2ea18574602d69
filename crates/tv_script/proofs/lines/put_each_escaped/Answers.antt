use Rattle.std.proofs.Common.{ap}
use Rattle.tv_model.specs.Log.LogText.{escaped_in_log}
use Rattle.tv_io.proofs.PenLemmas.{Puts-more, Puts-along}
use Rattle.tv_script.proofs.lines.put_each_escaped.Goals as goal

pub loop-ch-preserved : goal.loop-ch-preserved
loop-ch-preserved g c =
    Puts-more escaped_in_log c.args.text.now c.loop-ch.ch-index c.ch-item.result c.loop-ch-test.true c.loop-ch.invariant (Puts-along (ap escaped_in_log c.ch-item.is) c.put_escaped_char.ensures)
