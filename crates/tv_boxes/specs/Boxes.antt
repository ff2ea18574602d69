-- The description of a box.
use Rattle.std.specs.Prelude.{◌≡◌, ℕ, ◌+◌, ◌-◌, pos, refl, true, false, List, [], ◌∷◌, ◌++◌, codes, fold, length}
use Rattle.std.specs.Prelude.{max, ◌==◌, Some, None, if◌then◌else◌}
use Rattle.tv_declarations.specs.CanonicalDescription.{description_text}
use Rattle.tv_lang.specs.declared.description.LangFault.{LangFault}
use Rattle.tv_lang.specs.declared.description.LangFault.TheVariants as lang
use Rattle.tv_lang.specs.Faults.{Spells}
use Rattle.tv_model.specs.declared.command.Ends.{Ends}
use Rattle.tv_model.specs.declared.desc.Desc.{Desc}
use Rattle.tv_model.specs.declared.desc.Dialog.{Dialog}
use Rattle.tv_model.specs.declared.desc.Version.TheVariants as versions
use Rattle.tv_model.specs.declared.kind.Kind.TheVariants as kinds
use Rattle.tv_model.specs.declared.node.Node.{Node}
use Rattle.tv_model.specs.Faults.{IsSound}
use Rattle.tv_boxes.specs.declared.making.BoxFault.{BoxFault}
use Rattle.tv_boxes.specs.declared.making.BoxFault.TheVariants as faults
use Rattle.tv_boxes.specs.declared.request.BoxKind.{BoxKind}
use Rattle.tv_boxes.specs.declared.request.BoxKind.TheVariants as boxes
use Rattle.tv_boxes.specs.declared.request.Choices.{Choices}
use Rattle.tv_boxes.specs.declared.request.FormField.{FormField}
use Rattle.tv_boxes.specs.declared.request.Item.{Item}
use Rattle.tv_boxes.specs.declared.request.Request.{Request}
use Rattle.tv_boxes.specs.Buttons.{button_views, buttons_columns, buttons_of}
use Rattle.tv_boxes.specs.Items.{tag_columns}
use Rattle.tv_boxes.specs.Lines.{at_line, on_lines}
use Rattle.tv_boxes.specs.Sizes.{longest, size}
use Rattle.tv_boxes.specs.Unfit.{first, unfit_box}
use Rattle.tv_boxes.specs.Views.{are_few, field_views, list_rows, text_rows, view}
use Rattle.tv_boxes.specs.Wrapping.{rows_of}

-- ---- how large a box is

-- the columns inside the frame and the free columns beside it
abbrev pub inside : ℕ → ℕ
inside width = width - 4

-- the columns at which a text is wrapped
abbrev pub wrap_columns : Request → ℕ
wrap_columns r = if r.width == 0 then 76 else max 16 (inside r.width)

-- the columns of the longest text behind a tag
abbrev pub behind_columns : List Item → ℕ
behind_columns items = fold (λ columns item. max columns (size (length item.text))) 0 items

-- the columns of items, one below another
abbrev pub items_columns : Choices → ℕ
items_columns choices = size (tag_columns choices.items + 2 + behind_columns choices.items)

-- the columns up to where a field of a form and its label end
abbrev pub field_end : FormField → ℕ
field_end field =
    size (max (field.column + field.width) (field.label_column + size (length field.label)))

-- the columns of a form
abbrev pub form_columns : List FormField → ℕ
form_columns fields = fold (λ columns field. max columns (field_end field)) 0 fields

-- the rows of a form
abbrev pub form_rows : List FormField → ℕ
form_rows fields = fold (λ rows field. max rows (max field.row field.label_row)) 0 fields

-- the columns that the fields of a box need
abbrev pub field_columns : BoxKind → ℕ
field_columns boxes.YesNo = 0
field_columns boxes.Message = 0
field_columns (boxes.Input start) = 40
field_columns (boxes.Menu choices) = items_columns choices
field_columns (boxes.CheckList choices) = size (items_columns choices + 4)
field_columns (boxes.RadioList choices) = size (items_columns choices + 4)
field_columns (boxes.Form fields) = form_columns fields

-- the rows that the fields of a box need
abbrev pub field_rows : BoxKind → ℕ
field_rows boxes.YesNo = 0
field_rows boxes.Message = 0
field_rows (boxes.Input start) = 1
field_rows (boxes.Menu choices) = list_rows choices
field_rows (boxes.CheckList choices) = size (length choices.items)
field_rows (boxes.RadioList choices) =
    if are_few choices then size (length choices.items) else list_rows choices
field_rows (boxes.Form fields) = form_rows fields

-- and a free row above, where there are any
abbrev pub rows_and_one : ℕ → ℕ
rows_and_one rows = if rows == 0 then 0 else rows + 1

-- the columns between the free ones beside the frame: those that are wanted, or more where they don't suffice
abbrev pub columns_of : Request → List (List ℕ) → ℕ
columns_of r rows =
    fold max 16 (inside r.width ∷ size (length r.title + 8) ∷ longest rows ∷ field_columns r.kind
    ∷ buttons_columns (buttons_of r.kind r.labels) ∷ [])

-- the rows above the buttons, the last of them free: those that are wanted, or more where they don't suffice
abbrev pub body_rows : Request → List (List ℕ) → ℕ
body_rows r rows =
    fold max 5 ((r.height - 3) ∷ size (size (length rows) + rows_and_one (field_rows r.kind) + 1) ∷ [])

-- ---- what stands in it

-- the ends of a box
abbrev pub ends_of : BoxKind → Ends
ends_of boxes.YesNo = record { ok = false; cancel = true; yes = true; no = true }
ends_of _ = record { ok = true; cancel = true; yes = false; no = false }

-- the views of a box of so many columns and of so many rows above its buttons
abbrev pub box_views : Request → List (List ℕ) → ℕ → ℕ → List Node
box_views r rows columns body =
    text_rows columns rows
    ++ (field_views (size (length rows) + 1) columns r.kind
    ++ button_views r.default_no (body + 1) (buttons_of r.kind r.labels))

-- the dialog, below the row of a menu bar; its own line is the fourth, below those of the version, the screen and
-- the start
abbrev pub box_dialog : Request → ℕ → ℕ → List Node → Dialog
box_dialog r columns body views = record {
  node = at_line 4 (view 0 1 (columns + 4) (kinds.Dialog (record {
    name = codes "box";
    h = pos (body + 3);
    title = r.title;
    opens = None;
    ends = ends_of r.kind;
  })));
  views = views;
  rules = [];
  own_kind = refl;
}

-- a description of the dialog alone, which is open at the start, on a screen that it fills between the first
-- row and the last
abbrev pub box_desc : ℕ → ℕ → Dialog → Desc
box_desc columns body dialog = record {
  version = versions.One;
  width = pos (columns + 4);
  height = pos (body + 5);
  start = Some (codes "box");
  menus = [];
  status = [];
  windows = [];
  dialogs = dialog ∷ [];
}

-- the description of a box of this size
abbrev pub desc_of_size : Request → List (List ℕ) → ℕ → ℕ → Desc
desc_of_size r rows columns body =
    box_desc columns body (box_dialog r columns body (on_lines (box_views r rows columns body)))

-- the description of a box with these rows of text
abbrev pub desc_of_rows : Request → List (List ℕ) → Desc
desc_of_rows r rows = desc_of_size r rows (columns_of r rows) (body_rows r rows)

-- the description of a box
abbrev pub boxed_desc : Request → Desc
boxed_desc r = desc_of_rows r (rows_of (wrap_columns r) r.text)

-- ---- what is answered

-- the canonical text of it
abbrev pub boxed_text : Request → List ℕ
boxed_text r = description_text (boxed_desc r)

-- the text spells the description, and that is sound
abbrev pub SpellsSound : List ℕ → Desc → Type 0
SpellsSound text d = Spells text d × IsSound d

-- a description that was read is this one, and sound
abbrev pub IsSoundAs : Desc → Desc → Type 0
IsSoundAs d read = (read ≡ d) × IsSound read

-- the box's text spells its own description, each label and item as it is given, and that is sound
abbrev pub IsSoundBox : Request → Type 0
IsSoundBox r = SpellsSound (boxed_text r) (boxed_desc r)

-- a text can't be read for a reason of its own: memory didn't run out
abbrev pub IsOfText : LangFault → Type 0
IsOfText lang.NoMemory = ⊥
IsOfText (lang.Syntax line) = Unit {0}
IsOfText lang.TooLong = Unit {0}
IsOfText lang.Version = Unit {0}

-- memory ran out; or the box's text doesn't spell its description, or that isn't sound, and the first of what can't be
-- shown is told, if there is any
abbrev pub RefusesBox : Request → BoxFault → Type 0
RefusesBox r faults.NoMemory = Unit {0}
RefusesBox r (faults.Unfit what) = ¬ IsSoundBox r × (first (unfit_box r (boxed_desc r)) ≡ Some what)
RefusesBox r faults.Faults = ¬ IsSoundBox r × (first (unfit_box r (boxed_desc r)) ≡ None)

-- the description has dialogs alone
abbrev pub HasDialogsAlone : Desc → Type 0
HasDialogsAlone d = (d.menus ≡ []) × (d.status ≡ []) × (d.windows ≡ [])
