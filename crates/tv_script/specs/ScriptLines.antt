-- The lines of a script that are judged in place.
use Rattle.std.specs.Prelude.{List, map, option_to_list}
use Rattle.tv_machine.specs.declared.script.Item.{Item}
use Rattle.tv_script.specs.Line.{Line}
use Rattle.tv_script.specs.Line as lines
use Rattle.tv_script.specs.declared.script_line.ScriptItems.{ScriptItems}
use Rattle.tv_script.specs.declared.script_line.ScriptItems.TheVariants as left
use Rattle.tv_script.specs.declared.script_line.ScriptLine.{ScriptLine}
use Rattle.tv_script.specs.declared.script_line.ScriptLine.TheVariants as lent
use Rattle.tv_script.specs.Lines.{item_typed}
use Rattle.tv_words.specs.Tokens.{text_left, text_quoted}

-- the line that is meant, which has a text of its own
abbrev pub line_meant : ScriptLine → Line
line_meant (lent.Key key) = lines.Key key
line_meant (lent.Type text) = lines.Typed (text_quoted text)
line_meant (lent.Down p) = lines.Down p
line_meant (lent.Move p) = lines.Move p
line_meant (lent.Up p) = lines.Up p
line_meant lent.Shot = lines.Shot
line_meant lent.Colors = lines.Colors

-- the items of a line that are left
abbrev pub items_left : ScriptItems → List Item
items_left (left.One item) = option_to_list item
items_left (left.Typed text) = map item_typed (text_left text)
