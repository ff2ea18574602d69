-- When a record fits a dialog, and how it is handed in.
use Rattle.std.specs.Prelude.{◌≡◌, ◌≢◌, ℕ, true, List, length, All, Option, Some, None, position, slice_get}
use Rattle.std.specs.Prelude.{if◌then◌else◌}
use Rattle.tv_app.specs.Running.{Runs}
use Rattle.tv_app.specs.declared.app.App.{App}
use Rattle.tv_app.specs.declared.setting.Taken.{Taken}
use Rattle.tv_app.specs.declared.setting.Unset.{Unset}
use Rattle.tv_app.specs.declared.setting.Unset.TheVariants as unset
use Rattle.tv_dialog.specs.Fields.{in_field_order}
use Rattle.tv_machine.specs.Run.{Session}
use Rattle.tv_machine.specs.Safe.{IsValueOf, is_field}
use Rattle.tv_model.specs.Description.Heads.{is_named}
use Rattle.tv_model.specs.Log.Record.{Entries, value_of, with_value}
use Rattle.tv_model.specs.declared.desc.Desc.{Desc}
use Rattle.tv_model.specs.declared.desc.Dialog.{Dialog}
use Rattle.tv_model.specs.declared.kind.Kind.{Kind}
use Rattle.tv_model.specs.declared.node.Id.{Id}
use Rattle.tv_model.specs.declared.node.Node.{Node}
use Rattle.tv_model.specs.declared.record.Value.{Value}
use Rattle.tv_session.specs.Session.{handed_in}
use Rattle.tv_valid.specs.Domain.{InDomain}

-- ---- the order of the fields

abbrev pub with_field_found : Entries → Id → Option Value → Entries
with_field_found ordered i None = ordered
with_field_found ordered i (Some value) = with_value ordered i value

-- with the value that a record has for a view, if the view is a field
abbrev pub with_view : Entries → Entries → Node → Entries
with_view values ordered view =
    if is_field view.kind then with_field_found ordered view.id (value_of values view.id.0) else ordered

-- ---- whether a record fits

-- there is a value, with which a field of the kind may be saved
abbrev pub IsSafeFor : Kind → Option Value → Type 0
IsSafeFor kind None = ⊥
IsSafeFor kind (Some value) = IsValueOf InDomain kind value

-- the view, if it is a field, has such a value
abbrev pub HasSafeValue : Entries → Node → Type 0
HasSafeValue values view = is_field view.kind ≡ true → IsSafeFor view.kind (value_of values view.id.0)

-- each field of the dialog has a value with which it may be saved, and there are no other values
pub record FitsDialog (dialog : Dialog) (values : Entries) : Type 0 where
  pub each : All (HasSafeValue values) dialog.views
  pub count : length values ≡ length (in_field_order dialog values)

-- a dialog has the name, and the record fits the first
pub record FitsNamed (d : Desc) (name : List ℕ) (values : Entries) : Type 0 where
  pub place : ℕ
  pub first : position (is_named name) d.dialogs ≡ Some place
  pub dialog : Dialog
  pub there : slice_get d.dialogs place ≡ Some dialog
  pub fits : FitsDialog dialog values

-- ---- what is made of it

-- why a dialog's record isn't taken: memory ran out, or it doesn't fit
abbrev pub RefusesFields : Dialog → Entries → Unset → Type 0
RefusesFields dialog values unset.NoMemory = Unit {0}
RefusesFields dialog values unset.NoDialog = ⊥
RefusesFields dialog values unset.Unfit = FitsDialog dialog values → ⊥

-- the same by a name: it doesn't fit the dialog that has that, or none has
abbrev pub RefusesRecord : Desc → List ℕ → Entries → Unset → Type 0
RefusesRecord d name values unset.NoMemory = Unit {0}
RefusesRecord d name values unset.NoDialog = position (is_named name) d.dialogs ≡ None
RefusesRecord d name values unset.Unfit = (position (is_named name) d.dialogs ≢ None) × (FitsNamed d name values → ⊥)

-- the record fits, and its values are taken in the order of the dialog's fields
pub record IsTakenOf (d : Desc) (name : List ℕ) (values : Entries) (taken : Taken) : Type 0 where
  pub fits : FitsNamed d name values
  pub place : fits.place ≡ taken.place
  pub order : taken.values ≡ in_field_order fits.dialog values

-- the record fits, and the application stands for the run in which the dialog's last end saved it, in the
-- order of its fields
pub record IsSetFrom (s : Session) (name : List ℕ) (values : Entries) (after : App) : Type 0 where
  pub fits : FitsNamed s.desc name values
  pub runs : Runs after (handed_in fits.place (in_field_order fits.dialog values) s)
