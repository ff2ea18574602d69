-- Reading a description, declaration by declaration.
use Rattle.std.specs.Prelude.{ℕ, ◌+◌, ◌-◌, ℤ, pos, negsuc, List, [], ◌∷◌, ◌++◌, length, nat_lt, ◌≡◌, Bool}
use Rattle.std.specs.Prelude.{true, false, not, ◌&&◌, Option, Some, None, is_none, option_and_then, codes}
use Rattle.std.specs.Prelude.{◌==◌, if◌then◌else◌, IsTrue, refl}
use Rattle.std.specs.Option.{option_map}
use Rattle.tv_model.specs.declared.node.Node.{Node}
use Rattle.tv_model.specs.declared.desc.Desc.{Desc}
use Rattle.tv_model.specs.declared.desc.Dialog.{Dialog}
use Rattle.tv_model.specs.declared.desc.Menu.{Menu}
use Rattle.tv_model.specs.declared.desc.Version.TheVariants as versions
use Rattle.tv_model.specs.declared.desc.Window.{Window}
use Rattle.tv_model.specs.Description.Nodes.{is_pane, is_window, is_dialog}
use Rattle.tv_declarations.specs.declared.declaration.Declaration.{Declaration}
use Rattle.tv_declarations.specs.declared.declaration.Declaration.TheVariants as declared
use Rattle.tv_declarations.specs.declared.place.Position.{Position}
use Rattle.tv_words.specs.declared.word.Word.{Word}
use Rattle.tv_lang.specs.declared.progress.Progress.{Progress}
use Rattle.tv_lang.specs.declared.stage.Stage.{Stage}
use Rattle.tv_lang.specs.declared.stage.Stage.TheVariants as stages
use Rattle.tv_words.specs.Fields.{is_bare_word}
use Rattle.tv_declarations.specs.Spelling.{is_text, is_view}
use Rattle.tv_words.specs.Reading.Numbers.{number_in}
use Rattle.tv_declarations.specs.Reading.Declarations.{declaration_in}

-- ---- which parts a description has not

-- no dialog is declared
abbrev pub no_dialogs : Desc → Bool
no_dialogs d = length d.dialogs == 0

-- nothing that comes after status items
abbrev pub no_windows : Desc → Bool
no_windows d = length d.windows == 0 && no_dialogs d

-- nothing that comes after menus
abbrev pub no_status : Desc → Bool
no_status d = length d.status == 0 && no_windows d

-- nothing that comes after the start line
abbrev pub no_menus : Desc → Bool
no_menus d = length d.menus == 0 && no_status d

-- ---- what each stage takes

-- a description, and the stage after it where there is one
abbrev pub beside : Desc → Option Stage → Option (Stage × Desc)
beside d stage = option_map (λ s. (s, d)) stage

-- the first declaration: the version
abbrev pub version_taken : Desc → Declaration → Option (Stage × Desc)
version_taken d (declared.Version version) = Some (stages.Screen, record d { version = version })
version_taken d _ = None

-- the second declaration: the screen
abbrev pub screen_taken : Desc → Declaration → Option (Stage × Desc)
screen_taken d (declared.Screen width height) =
    Some (stages.Between, record d { width = width; height = height })
screen_taken d _ = None

-- a window without texts
abbrev pub empty_window : (node : Node) → IsTrue (is_window node.kind) → Window
empty_window node is = record { node = node; views = []; own_kind = is }

-- a dialog without views and rules
abbrev pub dialog_of : (node : Node) → IsTrue (is_dialog node.kind) → Dialog
dialog_of node is = record { node = node; views = []; rules = []; own_kind = is }

-- after the line of a node that is a window or not, and a dialog or not
abbrev pub opened_as : Desc → (node : Node) (window dialog : Bool) → is_window node.kind ≡ window
    → is_dialog node.kind ≡ dialog → Option (Stage × Desc)
opened_as d node true dialog window_is dialog_is =
    if no_dialogs d then Some (stages.InWindow (empty_window node window_is), d) else None
opened_as d node false true window_is dialog_is = Some (stages.InViews (dialog_of node dialog_is) 0, d)
opened_as d node false false window_is dialog_is = None

-- after the line of a node
abbrev pub node_opened : Desc → Node → Option (Stage × Desc)
node_opened d node = opened_as d node (is_window node.kind) (is_dialog node.kind) refl refl

-- the start line, a menu, a status item, a window or a dialog
abbrev pub part_taken : Desc → Declaration → Option (Stage × Desc)
part_taken d (declared.Start name) =
    if is_none d.start && no_menus d then Some (stages.Between, record d { start = Some name }) else None
part_taken d (declared.Menu i title) =
    if no_status d then Some (stages.InMenu (record { id = i; title = title; items = [] }), d) else None
part_taken d (declared.Status item) =
    if no_windows d then Some (stages.Between, record d { status = d.status ++ item ∷ [] }) else None
part_taken d (declared.Node node) = node_opened d node
part_taken d _ = None

-- an item of a menu, or its end
abbrev pub menu_taken : Desc → Menu → Declaration → Option (Stage × Desc)
menu_taken d menu (declared.Item item) =
    Some (stages.InMenu (record menu { items = menu.items ++ item ∷ [] }), d)
menu_taken d menu declared.End =
    if length menu.items == 0 then None else Some (stages.Between, record d { menus = d.menus ++ menu ∷ [] })
menu_taken d menu _ = None

-- a text of a window, or its end
abbrev pub window_taken : Desc → Window → Declaration → Option (Stage × Desc)
window_taken d window (declared.Node view) =
    if is_text view.kind then Some (stages.InWindow (record window { views = window.views ++ view ∷ [] }), d)
    else None
window_taken d window declared.End = Some (stages.Between, record d { windows = d.windows ++ window ∷ [] })
window_taken d window _ = None

-- the panes that are open after a view, where so many are before it
abbrev pub panes_after : ℕ → Node → Option ℕ
panes_after panes view =
    if is_pane view.kind then (if nat_lt panes 16 then Some (panes + 1) else None) else Some panes

-- a view of a dialog
abbrev pub view_taken : Desc → Dialog → ℕ → Node → Option (Stage × Desc)
view_taken d dialog panes view =
    if is_view view.kind
    then option_map (λ more. (stages.InViews (record dialog { views = dialog.views ++ view ∷ [] }) more, d))
    (panes_after panes view)
    else None

-- the description with the dialog
abbrev pub with_dialog : Desc → Dialog → Option (Stage × Desc)
with_dialog d dialog = Some (stages.Between, record d { dialogs = d.dialogs ++ dialog ∷ [] })

-- a view or a rule of a dialog, the end of a pane, or that of the dialog
abbrev pub views_taken : Desc → Dialog → ℕ → Declaration → Option (Stage × Desc)
views_taken d dialog panes (declared.Node view) = view_taken d dialog panes view
views_taken d dialog panes (declared.Rule rule) =
    if panes == 0 then Some (stages.InRules (record dialog { rules = dialog.rules ++ rule ∷ [] }), d)
    else None
views_taken d dialog panes declared.End =
    if panes == 0 then with_dialog d dialog else Some (stages.InViews dialog (panes - 1), d)
views_taken d dialog panes _ = None

-- a rule of a dialog, or its end
abbrev pub rules_taken : Desc → Dialog → Declaration → Option (Stage × Desc)
rules_taken d dialog (declared.Rule rule) =
    Some (stages.InRules (record dialog { rules = dialog.rules ++ rule ∷ [] }), d)
rules_taken d dialog declared.End = with_dialog d dialog
rules_taken d dialog _ = None

-- one declaration more
abbrev pub declaration_taken : Stage → Desc → Declaration → Option (Stage × Desc)
declaration_taken stages.Version d declaration = version_taken d declaration
declaration_taken stages.Screen d declaration = screen_taken d declaration
declaration_taken stages.Between d declaration = part_taken d declaration
declaration_taken (stages.InMenu menu) d declaration = menu_taken d menu declaration
declaration_taken (stages.InWindow window) d declaration = window_taken d window declaration
declaration_taken (stages.InViews dialog panes) d declaration = views_taken d dialog panes declaration
declaration_taken (stages.InRules dialog) d declaration = rules_taken d dialog declaration

-- ---- a description, line by line

-- nothing is read
abbrev pub nothing_read : Progress
nothing_read = record {
  next = 1;
  stage = stages.Version;
  desc = record {
    version = versions.One;
    width = pos 0;
    height = pos 0;
    start = None;
    menus = [];
    status = [];
    windows = [];
    dialogs = [];
  };
}

-- a number other than 1 and 2
abbrev pub is_other : Option ℤ → Bool
is_other None = false
is_other (Some (pos n)) = not (n == 1) && not (n == 2)
is_other (Some (negsuc n)) = true

-- a line `tvd` of another version
abbrev pub other_version : List Word → Bool
other_version (keyword ∷ version ∷ []) = is_bare_word keyword (codes "tvd") && is_other (number_in version)
other_version _ = false

-- the first declaration is one of another version
abbrev pub is_other_version : Progress → List Word → Bool
is_other_version p ws = elim p.stage as (λ _. Bool) [ stages.Version ↦ other_version ws | _ ↦ false ]

-- the panes that are open
abbrev pub open_panes : Stage → ℕ
open_panes (stages.InViews dialog panes) = panes
open_panes _ = 0

-- the line of the next declaration in the canonical text, and the panes around it
abbrev pub position : Progress → Position
position p = record { id = record { 0 = p.next }; depth = open_panes p.stage }

-- read up to this stage, with this line next
abbrev pub progress : ℕ → Stage × Desc → Progress
progress next p = record { next = next; stage = p.0; desc = p.1 }

-- one line more
abbrev pub description_line_taken : Progress → List Word → Option Progress
description_line_taken p ws =
    option_map (progress (p.next + 1))
    (option_and_then (declaration_taken p.stage p.desc) (declaration_in (position p) ws))

-- the text may end at the stage
abbrev pub may_end_at : Stage → Bool
may_end_at stages.Between = true
may_end_at _ = false

-- the description, where it is read to its end
abbrev pub finished_description : Progress → Option Desc
finished_description p = if may_end_at p.stage then Some p.desc else None
