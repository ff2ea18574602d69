-- Reading the lines that declare windows, dialogs and views.
use Rattle.std.specs.Prelude.{ℕ, ℤ, List, [], ◌∷◌, Option, Some, None, codes, if◌then◌else◌}
use Rattle.std.specs.Option.{option_map}
use Rattle.tv_model.specs.declared.command.Ends.{Ends}
use Rattle.tv_model.specs.declared.kind.MarkedText.{MarkedText}
use Rattle.tv_model.specs.declared.node.Node.{Node}
use Rattle.tv_model.specs.declared.kind.Kind.TheVariants as kinds
use Rattle.tv_declarations.specs.declared.place.Place.{Place}
use Rattle.tv_declarations.specs.declared.place.Position.{Position}
use Rattle.tv_words.specs.declared.word.Word.{Word}
use Rattle.tv_words.specs.Fields.{is_bare_word, name_in, text_in}
use Rattle.tv_declarations.specs.Reading.Options.{with2, with3, with5}
use Rattle.tv_words.specs.Reading.Numbers.{number_in}
use Rattle.tv_declarations.specs.Reading.Commands.{command_in, ends_in, button_options_in}
use Rattle.tv_declarations.specs.Reading.Inputs.{input_in}
use Rattle.tv_declarations.specs.Reading.Clusters.{checks_in, radios_in, list_in}
use Rattle.tv_declarations.specs.Reading.Places.{place_from, node_at, mark_in}

-- what follows `text`
abbrev pub text_in_fields : Position → List Word → Option Node
text_in_fields at (x ∷ y ∷ w ∷ h ∷ text ∷ []) =
    with3 (λ p h text. node_at at p (kinds.Text (record { h = h; text = text }))) (place_from x y w)
    (number_in h) (text_in text)
text_in_fields at _ = None

-- a label, where all its fields are there
abbrev pub label_from : Position → Option MarkedText → Option Place → Option (List ℕ) → Option Node
label_from at text place link =
    with3 (λ text p link. node_at at p (kinds.Label (record { text = text; link = link }))) text place link

-- what follows `label`
abbrev pub label_in : Position → List Word → Option Node
label_in at (x ∷ y ∷ w ∷ text ∷ link ∷ []) = label_from at (mark_in text) (place_from x y w) (name_in link)
label_in at _ = None

-- what follows `button`
abbrev pub button_in : Position → List Word → Option Node
button_in at (name ∷ x ∷ y ∷ w ∷ text ∷ command ∷ options) =
    with5 (λ text name p command options.
    node_at at p
    (kinds.Button
    (record {
      name = name;
      text = text;
      command = command;
      is_default = options.0;
      grabs = options.1;
    }))) (mark_in text) (name_in name) (place_from x y w) (command_in command)
    (button_options_in options)
button_in at _ = None

-- what follows `pane`
abbrev pub pane_in : Position → List Word → Option Node
pane_in at (name ∷ x ∷ y ∷ w ∷ h ∷ []) =
    with3 (λ name p h. node_at at p (kinds.Pane (record { name = name; h = h }))) (name_in name)
    (place_from x y w) (number_in h)
pane_in at _ = None

-- a window, where all its fields are there
abbrev pub window_from : Position → Option (List ℕ) → Option Place → Option ℤ → Option ℤ → Option (List ℕ)
    → Option Node
window_from at name place h number title =
    with5 (λ name p h number title.
    node_at at p (kinds.Window (record { name = name; h = h; number = number; title = title }))) name
    place h number title

-- what follows `window`
abbrev pub window_in : Position → List Word → Option Node
window_in at (name ∷ x ∷ y ∷ w ∷ h ∷ number ∷ title ∷ []) =
    window_from at (name_in name) (place_from x y w) (number_in h) (number_in number) (text_in title)
window_in at _ = None

-- the command after `opens`, and the end commands after `ends`
abbrev pub opened_in : List Word → Option (Option ℤ × Ends)
opened_in (number ∷ keyword ∷ ends) =
    if is_bare_word keyword (codes "ends")
    then with2 (λ number ends. (Some number, ends)) (number_in number) (ends_in ends)
    else None
opened_in _ = None

-- what follows a dialog's title
abbrev pub commands_in : List Word → Option (Option ℤ × Ends)
commands_in [] = None
commands_in (keyword ∷ fields) =
    if is_bare_word keyword (codes "ends") then option_map (λ ends. (None, ends)) (ends_in fields)
    else if is_bare_word keyword (codes "opens") then opened_in fields
    else None

-- what follows `dialog`
abbrev pub dialog_in : Position → List Word → Option Node
dialog_in at (name ∷ x ∷ y ∷ w ∷ h ∷ title ∷ commands) =
    with5 (λ name p h title commands.
    node_at at p
    (kinds.Dialog
    (record { name = name; h = h; title = title; opens = commands.0; ends = commands.1 })))
    (name_in name) (place_from x y w) (number_in h) (text_in title) (commands_in commands)
dialog_in at _ = None

-- a line that declares a control of several items, or an input line
abbrev pub control_in : Position → Word → List Word → Option Node
control_in at keyword fields =
    if is_bare_word keyword (codes "input") then input_in at fields
    else if is_bare_word keyword (codes "checks") then checks_in at fields
    else if is_bare_word keyword (codes "radios") then radios_in at fields
    else if is_bare_word keyword (codes "list") then list_in at fields
    else None

-- a line that declares a window, a dialog or a view
abbrev pub node_in : Position → Word → List Word → Option Node
node_in at keyword fields =
    if is_bare_word keyword (codes "text") then text_in_fields at fields
    else if is_bare_word keyword (codes "label") then label_in at fields
    else if is_bare_word keyword (codes "button") then button_in at fields
    else if is_bare_word keyword (codes "pane") then pane_in at fields
    else if is_bare_word keyword (codes "window") then window_in at fields
    else if is_bare_word keyword (codes "dialog") then dialog_in at fields
    else control_in at keyword fields
