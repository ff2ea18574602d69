-- The values of a dialog's fields, as the list of the entries.
use Rattle.std.specs.Prelude.{[], ℕ, List, ◌∷◌, Option, Some, None, ◌==◌, if◌then◌else◌}
use Rattle.tv_model.specs.declared.node.Id.{Id}
use Rattle.tv_model.specs.declared.record.Value.{Value}
use Rattle.tv_model.specs.declared.record.Entry.{Entry}

-- the entries of a record, in order
abbrev pub Entries : Type 0
Entries = List Entry

-- the value of the first entry of the field
abbrev pub value_of : Entries → ℕ → Option Value
value_of [] field = None
value_of (e ∷ es) field = if e.id.0 == field then Some e.value else value_of es field

-- the first entry of the field has the value, or a new one at the end
abbrev pub with_value : Entries → Id → Value → Entries
with_value [] id value = record { id = id; value = value } ∷ []
with_value (e ∷ es) id value =
    if e.id.0 == id.0 then record { id = e.id; value = value } ∷ es else e ∷ with_value es id value
