-- The buttons of a box.
use Rattle.std.specs.Prelude.{ℕ, ◌+◌, Bool, true, false, not, List, [], ◌∷◌, codes, length, max, Option, Some, None}
use Rattle.std.specs.Prelude.{if◌then◌else◌}
use Rattle.std.specs.Char.{is_ascii_alphanumeric}
use Rattle.tv_model.specs.declared.command.CommandSpec.{CommandSpec}
use Rattle.tv_model.specs.declared.command.CommandSpec.TheVariants as commands
use Rattle.tv_model.specs.declared.kind.Kind.TheVariants as kinds
use Rattle.tv_model.specs.declared.kind.MarkedText.{MarkedText}
use Rattle.tv_model.specs.declared.node.Node.{Node}
use Rattle.tv_model.specs.Description.Marks.{marked_letter, marks}
use Rattle.tv_boxes.specs.declared.buttons.Buttons.{Buttons}
use Rattle.tv_boxes.specs.declared.buttons.Press.{Press}
use Rattle.tv_boxes.specs.declared.request.BoxKind.{BoxKind}
use Rattle.tv_boxes.specs.declared.request.BoxKind.TheVariants as boxes
use Rattle.tv_boxes.specs.declared.request.Labels.{Labels}
use Rattle.tv_boxes.specs.Items.{unmarked}
use Rattle.tv_boxes.specs.Sizes.{size}
use Rattle.tv_boxes.specs.Views.{view}

-- the labels that buttons have unless others are given
abbrev pub standard_labels : Labels
standard_labels = record {
  yes = codes "Yes";
  no = codes "No";
  ok = codes "OK";
  cancel = codes "Cancel";
}

-- the first place, where a letter or digit is there
abbrev pub first_mark : List ℕ → Option ℕ
first_mark [] = None
first_mark (c ∷ cs) = if is_ascii_alphanumeric c then Some 0 else None

-- a button that stands nowhere yet, its first letter marked
abbrev pub press : List ℕ → List ℕ → CommandSpec → Press
press name label command = record {
  name = name;
  text = record { text = label; mark = first_mark label };
  command = command;
}

-- the text, which marks no letter that is taken
abbrev pub unless_taken : Option ℕ → MarkedText → MarkedText
unless_taken None text = text
unless_taken (Some letter) text = if marks letter text then unmarked text.text else text

-- the button beside another, which has its letter first
abbrev pub beside : Press → Press → Press
beside first second = record {
  name = second.name;
  text = unless_taken (marked_letter first.text) second.text;
  command = second.command;
}

-- the buttons of a box
abbrev pub buttons_of : BoxKind → Labels → Buttons
buttons_of boxes.Message labels = record { first = press (codes "ok") labels.ok commands.Ok; second = None }
buttons_of boxes.YesNo labels = record {
  first = press (codes "yes") labels.yes commands.Yes;
  second = Some (press (codes "no") labels.no commands.No);
}
buttons_of _ labels = record {
  first = press (codes "ok") labels.ok commands.Ok;
  second = Some (press (codes "cancel") labels.cancel commands.Cancel);
}

-- the columns of a button
abbrev pub press_columns : Press → ℕ
press_columns button = max 10 (size (length button.text.text + 4))

-- the columns of a second button and of the space before it
abbrev pub second_columns : Option Press → ℕ
second_columns None = 0
second_columns (Some second) = press_columns second + 2

-- the columns of all buttons
abbrev pub buttons_columns : Buttons → ℕ
buttons_columns buttons = size (press_columns buttons.first + second_columns buttons.second)

-- a button at a place
abbrev pub press_view : ℕ → ℕ → Bool → Press → Node
press_view x row is_default button = view x row (press_columns button) (kinds.Button (record {
  name = button.name;
  text = button.text;
  command = button.command;
  is_default = is_default;
  grabs = false;
}))

-- in the order of their declarations, which is that of Tab
abbrev pub ordered : Bool → Node → Node → List Node
ordered false first second = first ∷ second ∷ []
ordered true first second = second ∷ first ∷ []

-- the buttons in a row; the one that Enter presses at first is declared first
abbrev pub placed : Bool → ℕ → Press → Option Press → List Node
placed second_is_default row first None = press_view 2 row true first ∷ []
placed second_is_default row first (Some second) =
    ordered second_is_default (press_view 2 row (not second_is_default) first)
    (press_view (press_columns first + 4) row second_is_default (beside first second))

abbrev pub button_views : Bool → ℕ → Buttons → List Node
button_views second_is_default row buttons = placed second_is_default row buttons.first buttons.second
