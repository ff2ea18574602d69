-- The views of a box: its text, its fields and its buttons, and the lines of these.
use Rattle.std.specs.Prelude.{ℕ, ◌+◌, pos, Bool, false, List, [], ◌∷◌, ◌++◌, codes, fold, length, map}
use Rattle.std.specs.Prelude.{max, min, nat_le, ◌==◌, Option, Some, None, if◌then◌else◌}
use Rattle.std.specs.Fmt.{decimal}
use Rattle.tv_valid.specs.declared.input.DomainSpec.TheVariants as domains
use Rattle.tv_model.specs.declared.kind.Kind.{Kind}
use Rattle.tv_model.specs.declared.kind.Kind.TheVariants as kinds
use Rattle.tv_model.specs.declared.node.Node.{Node}
use Rattle.tv_boxes.specs.declared.request.BoxKind.{BoxKind}
use Rattle.tv_boxes.specs.declared.request.BoxKind.TheVariants as boxes
use Rattle.tv_boxes.specs.declared.request.Choices.{Choices}
use Rattle.tv_boxes.specs.declared.request.FormField.{FormField}
use Rattle.tv_boxes.specs.Items.{first_on, item_rows, items_on, unmarked}
use Rattle.tv_boxes.specs.Sizes.{size}

-- a view at a place, on no line yet
abbrev pub view : ℕ → ℕ → ℕ → Kind → Node
view x y w kind = record { id = record { 0 = 0 }; depth = 0; x = pos x; y = pos y; w = pos w; kind = kind }

-- a row of text
abbrev pub text_row : ℕ → ℕ → ℕ → List ℕ → Node
text_row x y w text = view x y w (kinds.Text (record { h = pos 1; text = text }))

-- the rows so far, and one below them
abbrev pub with_row : ℕ → List Node → List ℕ → List Node
with_row columns views text = views ++ text_row 2 (size (length views) + 1) columns text ∷ []

-- rows of text from the top
abbrev pub text_rows : ℕ → List (List ℕ) → List Node
text_rows columns rows = fold (with_row columns) [] rows

-- ---- fields

-- an input that takes any text
abbrev pub input_kind : List ℕ → ℕ → List ℕ → Kind
input_kind name most start = kinds.Input (record {
  name = name;
  spec = record { max = pos most; domain = domains.Any; optional = false; fill = false };
  start = start;
  validates = false;
})

-- the rows of a list: as many as are wanted; if that is 0, as there are items, but no more than 12
abbrev pub list_rows : Choices → ℕ
list_rows choices = if choices.rows == 0 then min (length choices.items) 12 else choices.rows

abbrev pub list_kind : Choices → Kind
list_kind choices = kinds.List (record {
  name = codes "choice";
  h = pos (list_rows choices);
  items = item_rows choices.items;
  start = first_on choices.items;
})

abbrev pub checks_kind : Choices → Kind
checks_kind choices = kinds.CheckBoxes (record {
  name = codes "choice";
  items = map unmarked (item_rows choices.items);
  start = items_on choices.items;
})

abbrev pub radios_kind : Choices → Kind
radios_kind choices = kinds.RadioButtons (record {
  name = codes "choice";
  items = map unmarked (item_rows choices.items);
  start = first_on choices.items;
})

-- no more items than radio buttons may be
abbrev pub are_few : Choices → Bool
are_few choices = nat_le (length choices.items) 16

-- the control of a box other than a form, where it has one
abbrev pub control : BoxKind → Option Kind
control boxes.YesNo = None
control boxes.Message = None
control (boxes.Input start) = Some (input_kind (codes "text") 120 start)
control (boxes.Menu choices) = Some (list_kind choices)
control (boxes.CheckList choices) = Some (checks_kind choices)
control (boxes.RadioList choices) = Some (if are_few choices then radios_kind choices else list_kind choices)
control (boxes.Form fields) = None

-- the label of a form's field, where so many rows are above the form
abbrev pub label_row : ℕ → FormField → Node
label_row above field =
    text_row (field.label_column + 1) (field.label_row + above) (max 1 (size (length field.label))) field.label

-- the most characters of a form's field
abbrev pub most_of : FormField → ℕ
most_of field = if field.longest == 0 then field.width else field.longest

-- the inputs so far, and that of a field; a column of an input is left on both sides of its text
abbrev pub with_input : ℕ → List Node → FormField → List Node
with_input above views field =
    views
    ++ view field.column (field.row + above) (field.width + 2)
    (input_kind (codes "item" ++ decimal (size (length views) + 1)) (most_of field) field.start)
    ∷ []

-- the labels of a form, and its inputs
abbrev pub form_views : ℕ → List FormField → List Node
form_views above fields = map (label_row above) fields ++ fold (with_input above) [] fields

-- the control below a free row, where there is one
abbrev pub control_views : ℕ → ℕ → Option Kind → List Node
control_views above columns None = []
control_views above columns (Some kind) = view 2 (above + 1) columns kind ∷ []

-- the fields of a box, where so many rows are above them, the last of them free
abbrev pub field_views : ℕ → ℕ → BoxKind → List Node
field_views above columns (boxes.Form fields) = form_views above fields
field_views above columns kind = control_views above columns (control kind)
