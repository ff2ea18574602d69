use Rattle.std.proofs.Common.{◌≡◌, take, false}
use Rattle.tv_machine.specs.Output.{output, after}
use Rattle.tv_machine.specs.Run.{Session}
use Rattle.tv_io.specs.Writer.{Takes}
use Rattle.tv_script.proofs.performing.put_script.Given as goal

abbrev pub invariant-loop-index : goal.invariant-loop-index
invariant-loop-index g l = record {
  going : l.pen.stopped ≡ false;
  same : l.pen.out.ghost_name ≡ l.fn.pen.out.ghost_name;
  text : (s : Session) → g.S.Stage.stands l.fn.stage s → Takes (g.W.Writer.seen l.fn.pen.out.now) (g.W.Writer.seen l.pen.out.now) (output s (take l.index l.script));
  state : (s : Session) → g.S.Stage.stands l.fn.stage s → g.S.Stage.stands l.stage (after s (take l.index l.script));
}
