-- The fields of a dialog: their lines where it ends, and a record taken in their order.
use Rattle.std.specs.Prelude.{List, filter_map, Option, option_map}
use Rattle.tv_model.specs.declared.node.Id.{Id}
use Rattle.tv_model.specs.declared.desc.Dialog.{Dialog}
use Rattle.tv_model.specs.declared.log.LogLine.{LogLine}
use Rattle.tv_model.specs.declared.log.LogLine.TheVariants as lines
use Rattle.tv_model.specs.declared.record.Entry.{Entry}
use Rattle.tv_model.specs.Log.Record.{Entries, value_of}
use Rattle.tv_machine.specs.Safe.{field_ids}
use Rattle.tv_dialog.specs.declared.plan.LeafPlan.{LeafPlan}

-- the line of a leaf, if the record has a value for it
abbrev pub line_by : Entries → Id → Option LogLine
line_by fields i = option_map (λ value. lines.Field i value) (value_of fields i.0)

-- the lines of the leaves, in order
abbrev pub field_lines : Entries → List LeafPlan → List LogLine
field_lines fields leaves = filter_map (λ leaf. line_by fields leaf.id) leaves

-- the entry of an id, if the record has a value for it
abbrev pub entry_in : Entries → Id → Option Entry
entry_in values i = option_map (λ value. record { id = i; value = value }) (value_of values i.0)

-- the values that a record has for the dialog's fields, in description order
abbrev pub in_field_order : Dialog → Entries → Entries
in_field_order d values = filter_map (entry_in values) (field_ids d)
