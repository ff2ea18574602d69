use Rattle.std.proofs.Common.{take}
use Rattle.tv_model.specs.Log.LogText.{log_text}
use Rattle.tv_io.specs.Pen.{Puts}
use Rattle.tv_script.proofs.lines.put_log.Given as goal

abbrev pub invariant-loop-line : goal.invariant-loop-line
invariant-loop-line g l = Puts g.W.Writer.seen l.fn.pen l.pen (log_text l.desc (take l.line-index l.lines))
