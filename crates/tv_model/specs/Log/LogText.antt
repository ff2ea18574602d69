-- The text of the log.
use Rattle.std.specs.Prelude.{[], ℕ, Bool, List, ◌∷◌, ◌++◌, map, filter, flat_map, Option, Some, None}
use Rattle.std.specs.Prelude.{unwrap_or, encode_utf8, codes, decimal, ◌-◌, ◌/◌, ◌%◌, ◌^◌, ◌==◌}
use Rattle.std.specs.Prelude.{if◌then◌else◌}
use Rattle.std.specs.List.{range_with_len}
use Rattle.std.specs.Fmt.{signed_decimal}
use Rattle.tv_event.specs.Commands.{cm_cancel, cm_ok, cm_yes}
use Rattle.tv_model.specs.declared.node.Id.{Id}
use Rattle.tv_model.specs.declared.node.Node.{Node}
use Rattle.tv_model.specs.declared.desc.Desc.{Desc}
use Rattle.tv_model.specs.declared.record.Value.{Value}
use Rattle.tv_model.specs.declared.record.Value.TheVariants as values
use Rattle.tv_model.specs.declared.log.LogLine.{LogLine}
use Rattle.tv_model.specs.declared.log.LogLine.TheVariants as lines
use Rattle.tv_model.specs.Description.Nodes.{name_of, node_of}
use Rattle.tv_model.specs.Description.Heads.{all_nodes}

-- the bytes of characters
abbrev pub bytes_of : List ℕ → List ℕ
bytes_of chars = flat_map encode_utf8 chars

-- the name of a node, empty where it has none
abbrev pub name_of_node : Option Node → List ℕ
name_of_node None = []
name_of_node (Some node) = unwrap_or (name_of node.kind) []

-- the bytes of the name of the node
abbrev pub name_text : Desc → Id → List ℕ
name_text d i = bytes_of (name_of_node (node_of (all_nodes d) i))

-- the word of an end command
abbrev pub end_word : ℕ → List ℕ
end_word number =
    if number == cm_ok then codes "ok"
    else if number == cm_cancel then codes "cancel"
    else if number == cm_yes then codes "yes"
    else codes "no"

-- a quoted text: `"` and `\` are escaped
abbrev pub escaped_in_log : ℕ → List ℕ
escaped_in_log ch = if ch == 34 then 92 ∷ 34 ∷ [] else if ch == 92 then 92 ∷ 92 ∷ [] else encode_utf8 ch

-- a text between quotes
abbrev pub quoted_text : List ℕ → List ℕ
quoted_text chars = 34 ∷ (flat_map escaped_in_log chars ++ 34 ∷ [])

-- the marked items in rising order, with a space between, or `-`
abbrev pub has_bit : ℕ → ℕ → Bool
has_bit marks item = (marks / 2 ^ (item - 1)) % 2 == 1

-- words with a space between, or `-` where there are none
abbrev pub spaced : List (List ℕ) → List ℕ
spaced [] = codes "-"
spaced (word ∷ []) = word
spaced (word ∷ words) = word ++ 32 ∷ spaced words

-- the items that are marked
abbrev pub marks_text : ℕ → List ℕ
marks_text marks = spaced (map decimal (filter (has_bit marks) (range_with_len 1 16)))

-- a value, as a field line has it. Only the marks of check boxes are a list
abbrev pub value_text : Value → List ℕ
value_text (values.Text text) = quoted_text text
value_text (values.Marks marks) = marks_text marks
value_text (values.Item item) = decimal item

-- a line: words and the line end
unfoldable pub line_of : List ℕ → List ℕ → List ℕ
line_of word rest = word ++ rest ++ 10 ∷ []

-- a line of the log
abbrev pub log_line : Desc → LogLine → List ℕ
log_line d (lines.Open i) = line_of (codes "open ") (name_text d i)
log_line d (lines.Focus i) = line_of (codes "focus ") (name_text d i)
log_line d (lines.Press i) = line_of (codes "press ") (name_text d i)
log_line d (lines.Invalid i) = line_of (codes "invalid ") (name_text d i)
log_line d (lines.Close i) = line_of (codes "close ") (name_text d i)
log_line d lines.Quit = line_of (codes "quit") []
log_line d (lines.Command number) = line_of (codes "command ") (decimal number)
log_line d (lines.End i command) = line_of (codes "end ") (name_text d i ++ codes " " ++ end_word command.0)
log_line d (lines.Field i value) = line_of (codes "field ") (name_text d i ++ codes " " ++ value_text value)
log_line d (lines.Moved i p) = line_of (codes "moved ")
    (name_text d i ++ codes " " ++ signed_decimal p.x ++ codes " " ++ signed_decimal p.y)

-- the lines of the log
abbrev pub log_text : Desc → List LogLine → List ℕ
log_text d log = flat_map (log_line d) log
