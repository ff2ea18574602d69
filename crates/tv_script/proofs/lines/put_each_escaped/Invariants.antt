use Rattle.std.proofs.Common.{take}
use Rattle.std.specs.List.{flat_map}
use Rattle.tv_model.specs.Log.LogText.{escaped_in_log}
use Rattle.tv_io.specs.Pen.{Puts}
use Rattle.tv_script.proofs.lines.put_each_escaped.Given as goal

abbrev pub invariant-loop-ch : goal.invariant-loop-ch
invariant-loop-ch g l = Puts g.W.Writer.seen l.fn.pen l.pen (flat_map escaped_in_log (take l.ch-index l.text))
