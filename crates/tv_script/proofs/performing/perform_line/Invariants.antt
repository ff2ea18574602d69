use Rattle.std.proofs.Common.{◌≡◌, ◌+◌, ◌++◌, List, length, false}
use Rattle.tv_io.specs.Writer.{Seen}
use Rattle.tv_machine.specs.Run.{Session}
use Rattle.tv_machine.specs.declared.script.Item.{Item}
use Rattle.tv_script.specs.Lines.{items_of_line}
use Rattle.tv_script.specs.ScriptLines.{items_left, line_meant}
use Rattle.tv_script.specs.Streams.{Performs}
use Rattle.tv_script.proofs.performing.perform_line.Given as goal

abbrev pub invariant-loop-item : goal.invariant-loop-item
invariant-loop-item g l = record {
  going : l.pen.stopped ≡ false;
  same : l.pen.out.ghost_name ≡ l.fn.pen.out.ghost_name;
  there : (s : Session) × g.S.Stage.stands l.stage s;
  done : List Item;
  parts : done ++ items_left l.item-iterator ≡ items_of_line (line_meant l.line);
  begun : l.begun ≡ l.before + length done;
  performed : (s : Session) (from : Seen) (items : List Item) → l.before ≡ length items → Performs s items from (g.W.Writer.seen l.fn.pen.out.now) (g.S.Stage.stands l.fn.stage) → Performs s (items ++ done) from (g.W.Writer.seen l.pen.out.now) (g.S.Stage.stands l.stage);
}
