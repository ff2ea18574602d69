-- What the dialogs and fields of a run have, by the names that its description gives them.
use Rattle.std.specs.Prelude.{◌==◌, ℕ, Bool, false, List, Option, Some, None, bytes_eq, find}
use Rattle.std.specs.Prelude.{option_map, position}
use Rattle.std.specs.Option.{option_and_then}
use Rattle.tv_dialogs.specs.Records.{next_record}
use Rattle.tv_machine.specs.Run.{Session}
use Rattle.tv_model.specs.Description.Heads.{is_named}
use Rattle.tv_model.specs.Description.Nodes.{name_of}
use Rattle.tv_model.specs.Log.Record.{Entries, value_of}
use Rattle.tv_model.specs.declared.desc.Desc.{Desc}
use Rattle.tv_model.specs.declared.desc.Dialog.{Dialog}
use Rattle.tv_model.specs.declared.node.Id.{Id}
use Rattle.tv_model.specs.declared.node.Node.{Node}
use Rattle.tv_model.specs.declared.record.Value.{Value}
use Rattle.tv_model.specs.declared.record.Value.TheVariants as values
use Rattle.tv_session.specs.Session.{open_id_of}

-- ---- dialogs

-- the id of the first dialog of the name
abbrev pub dialog_id : Desc → List ℕ → Option Id
dialog_id d name = option_map (λ dialog. dialog.node.id) (find (is_named name) d.dialogs)

-- whether both ids are given, and are one
abbrev pub are_one : Option Id → Option Id → Bool
are_one None other = false
are_one (Some i) None = false
are_one (Some i) (Some j) = i.0 == j.0

-- whether the first dialog of the name is open
abbrev pub is_open_named : Session → List ℕ → Bool
is_open_named s name = are_one (open_id_of s) (dialog_id s.desc name)

-- what the first dialog of the name opens with next
abbrev pub record_named : Session → List ℕ → Option Entries
record_named s name = option_and_then (next_record s.desc s.state) (position (is_named name) s.desc.dialogs)

-- ---- fields

-- whether the view has a name, and it is this
abbrev pub is_name_of : List ℕ → Option (List ℕ) → Bool
is_name_of name None = false
is_name_of name (Some own) = bytes_eq own name

abbrev pub is_called : List ℕ → Node → Bool
is_called name view = is_name_of name (name_of view.kind)

-- the id of the first view of the name in a dialog
abbrev pub view_id : List ℕ → Dialog → Option Id
view_id name dialog = option_map (λ view. view.id) (find (is_called name) dialog.views)

-- the id of the first view of the name in the first dialog of the other
abbrev pub field_id : Desc → List ℕ → List ℕ → Option Id
field_id d dialog field = option_and_then (view_id field) (find (is_named dialog) d.dialogs)

-- the value of a field in a record, where both are given
abbrev pub value_in : Option Entries → Option Id → Option Value
value_in None field = None
value_in (Some entries) None = None
value_in (Some entries) (Some i) = value_of entries i.0

-- the value of the field of the name in the record of the dialog of the other
abbrev pub value_named : Session → List ℕ → List ℕ → Option Value
value_named s dialog field = value_in (record_named s dialog) (field_id s.desc dialog field)

-- its text, its marks and its item, where the value is one
abbrev pub found_text : Option Value → Option (List ℕ)
found_text (Some (values.Text text)) = Some text
found_text _ = None

abbrev pub found_marks : Option Value → Option ℕ
found_marks (Some (values.Marks marks)) = Some marks
found_marks _ = None

abbrev pub found_item : Option Value → Option ℕ
found_item (Some (values.Item item)) = Some item
found_item _ = None
