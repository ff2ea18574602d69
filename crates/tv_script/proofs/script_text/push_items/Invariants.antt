use Rattle.std.proofs.Common.{◌≡◌, ◌++◌}
use Rattle.tv_script.specs.Lines.{items_of_line}
use Rattle.tv_script.specs.ScriptLines.{items_left, line_meant}
use Rattle.tv_script.proofs.script_text.push_items.Given as goal

abbrev pub invariant-loop-item : goal.invariant-loop-item
invariant-loop-item l = l.items ++ items_left l.item-iterator ≡ l.fn.items ++ items_of_line (line_meant l.line)
