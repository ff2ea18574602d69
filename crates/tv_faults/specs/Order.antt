-- The order of faults.
use Rattle.std.specs.Prelude.{◌≡◌, ℕ, ◌<◌, ◌⊎◌, List, [], ◌∷◌, ◌++◌, map, flat_map, AllPairs, Option, Some}
use Rattle.std.specs.Prelude.{None}
use Rattle.tv_model.specs.declared.desc.Desc.{Desc}
use Rattle.tv_model.specs.declared.desc.Menu.{Menu}
use Rattle.tv_model.specs.declared.desc.Window.{Window}
use Rattle.tv_model.specs.declared.desc.Dialog.{Dialog}
use Rattle.tv_model.specs.declared.fault.Fault.{Fault}
use Rattle.tv_model.specs.Description.Heads.{dialog_nodes, window_nodes}
use Rattle.tv_model.specs.Faults.{fault_number}

-- by number, then by line
abbrev pub IsBefore : Fault → Fault → Type 0
IsBefore f g =
    (fault_number f.kind < fault_number g.kind)
    ⊎ ((fault_number f.kind ≡ fault_number g.kind) × (f.line < g.line))

-- the line of a `start`, where there is one
abbrev pub start_line : Option (List ℕ) → List ℕ
start_line None = []
start_line (Some name) = 3 ∷ []

abbrev pub lines_of_menu : Menu → List ℕ
lines_of_menu menu = menu.id.0 ∷ map (λ item. item.id.0) menu.items

abbrev pub lines_of_window : Window → List ℕ
lines_of_window window = map (λ node. node.id.0) (window_nodes window)

abbrev pub lines_of_dialog : Dialog → List ℕ
lines_of_dialog dialog = map (λ node. node.id.0) (dialog_nodes dialog) ++ map (λ rule. rule.id.0) dialog.rules

-- the lines of the declarations, the screen's first
abbrev pub declaration_lines : Desc → List ℕ
declaration_lines d =
    (2 ∷ start_line d.start)
    ++ (flat_map lines_of_menu d.menus
    ++ (map (λ item. item.id.0) d.status
    ++ (flat_map lines_of_window d.windows
    ++ flat_map lines_of_dialog d.dialogs)))

-- each declaration has a line of its own, in their order
abbrev pub AreLinesRising : Desc → Type 0
AreLinesRising d = AllPairs (λ line later. line < later) (declaration_lines d)

abbrev pub AreInOrder : List Fault → Type 0
AreInOrder list = AllPairs IsBefore list
