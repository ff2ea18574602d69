-- What texts are asked for.
use Rattle.std.specs.Prelude.{◌≡◌, ◌≤◌, ◌<◌, ◌⊎◌, ◌%◌, ◌/◌, ℕ, Bool, true, false, List, [], ◌∷◌, flat_map, length, position}
use Rattle.std.specs.Prelude.{Option, None, Some, option_map, slice_get, IsUtf8}
use Rattle.std.specs.List.{range_with_len}
use Rattle.tv_app.specs.Names.{record_named}
use Rattle.tv_app.specs.Running.{Session}
use Rattle.tv_cells.specs.Glyph.{Glyph}
use Rattle.tv_dialogs.specs.Records.{next_record}
use Rattle.tv_held.specs.declared.answer.Answer.{Answer}
use Rattle.tv_held.specs.declared.answer.Answer.TheVariants as answers
use Rattle.tv_held.specs.declared.asked.Look.{Look}
use Rattle.tv_held.specs.declared.asked.Look.TheVariants as looks
use Rattle.tv_io.specs.Pen.{Puts}
use Rattle.tv_io.specs.Rooms.{Shows}
use Rattle.tv_io.specs.Writer.{Seen}
use Rattle.tv_io.specs.declared.pen.Pen.{Pen}
use Rattle.tv_machine.specs.Output.{screen_cell}
use Rattle.tv_model.specs.Description.Heads.{is_named}
use Rattle.tv_model.specs.Description.Numbers.{natural}
use Rattle.tv_model.specs.Log.LogText.{log_line, log_text, name_text}
use Rattle.tv_model.specs.Log.Record.{Entries, value_of}
use Rattle.tv_model.specs.declared.desc.Desc.{Desc}
use Rattle.tv_model.specs.declared.desc.Dialog.{Dialog}
use Rattle.tv_model.specs.declared.log.LogLine.TheVariants as lines
use Rattle.tv_model.specs.declared.node.Id.{Id}
use Rattle.tv_model.specs.declared.node.Node.{Node}
use Rattle.tv_model.specs.declared.record.Value.{Value}

-- a cell: the number of its character in three bytes, the least first, and its colours
abbrev pub cell_bytes : Glyph → List ℕ
cell_bytes cell = cell.ch % 256 ∷ cell.ch / 256 % 256 ∷ cell.ch / 65536 % 256 ∷ cell.attr ∷ []

-- the name of what has the focus
abbrev pub focus_text : Desc → Option Id → List ℕ
focus_text d None = []
focus_text d (Some i) = name_text d i

-- the cells of the screen, row by row
abbrev pub row_bytes : ℕ → (ℕ → ℕ → Glyph) → ℕ → List ℕ
row_bytes width cell row = flat_map (λ column. cell_bytes (cell column row)) (range_with_len 0 width)

abbrev pub screen_bytes : (width height : ℕ) → (ℕ → ℕ → Glyph) → List ℕ
screen_bytes width height cell = flat_map (row_bytes width cell) (range_with_len 0 height)

-- a field as it is logged after an end, if the view is one
abbrev pub field_text : Desc → Id → Option Value → List ℕ
field_text d i None = []
field_text d i (Some value) = log_line d (lines.Field i value)

abbrev pub record_text : Desc → List Node → Entries → List ℕ
record_text d views entries = flat_map (λ view. field_text d view.id (value_of entries view.id.0)) views

-- the fields of the first dialog of the name, with the values with which it opens next
pub record IsRecordText (s : Session) (name text : List ℕ) : Type 0 where
  pub place : ℕ
  pub first : position (is_named name) s.desc.dialogs ≡ Some place
  pub dialog : Dialog
  pub there : slice_get s.desc.dialogs place ≡ Some dialog
  pub entries : Entries
  pub next : next_record s.desc s.state place ≡ Some entries
  pub is : text ≡ record_text s.desc dialog.views entries

-- what is asked for of the session; of a record, by the name of its dialog
abbrev pub IsTextOf : Look → Session → (name : List ℕ) → List ℕ → Type 0
IsTextOf looks.Log s name text = text ≡ log_text s.desc s.state.log
IsTextOf looks.Screen s name text = text ≡ screen_bytes (natural s.desc.width) (natural s.desc.height) (screen_cell s)
IsTextOf looks.Shape s name text = text ≡ natural s.desc.width ∷ natural s.desc.height ∷ []
IsTextOf looks.Focus s name text = text ≡ focus_text s.desc (option_map (λ o. o.focus) s.state.dialog)
IsTextOf looks.Record s name text = IsRecordText s name text

-- there is no record: no dialog has the name
abbrev pub IsNotThere : Look → Session → (name : List ℕ) → Type 0
IsNotThere looks.Record s name = (IsUtf8 name → ⊥) ⊎ (record_named s name ≡ None)
IsNotThere look s name = ⊥

-- it was put, or it isn't there
abbrev pub PutsLook : {W : Type 0} → (W → Seen) → Look → Session → (name : List ℕ) → (old new : Pen W) → (is_there : Bool)
    → Type 0
PutsLook seen look s name old new true = (text : List ℕ) × IsTextOf look s name text × Puts seen old new text
PutsLook seen look s name old new false = IsNotThere look s name

-- the room is as it was
pub record StaysAs (old new : List ℕ) (used : ℕ) : Type 0 where
  pub same : new ≡ old
  pub none : used ≡ 0

-- the text is shown in a room that is large enough, or only its size is told
abbrev pub ShowsBy : Answer → (old new : List ℕ) → (used : ℕ) → (text : List ℕ) → Type 0
ShowsBy answers.Done old new used text = (used ≤ length old) × Shows old new used text
ShowsBy answers.NoRoom old new used text = (length old < used) × Shows old new used text
ShowsBy answer old new used text = ⊥

abbrev pub LooksBy : Answer → Look → Session → (name old new : List ℕ) → (used : ℕ) → Type 0
LooksBy answers.Refused look s name old new used = IsNotThere look s name × StaysAs old new used
LooksBy answers.NoMemory look s name old new used = StaysAs old new used
LooksBy answer look s name old new used =
    (text : List ℕ) × IsTextOf look s name text × ShowsBy answer old new used text
