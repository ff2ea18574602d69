-- Commands that do nothing where they are given.
use Rattle.std.specs.Prelude.{◌≡◌, ℕ, Bool, true, false, List, ◌++◌, None, filter, flat_map, map}
use Rattle.tv_machine.specs.Dialog.Ending.{command}
use Rattle.tv_machine.specs.Dialog.Modal.{Modal}
use Rattle.tv_machine.specs.Session.Commands.{do_command}
use Rattle.tv_machine.specs.State.{State}
use Rattle.tv_model.specs.declared.command.CommandSpec.{CommandSpec}
use Rattle.tv_model.specs.declared.command.CommandSpec.TheVariants as commands
use Rattle.tv_model.specs.declared.desc.Desc.{Desc}
use Rattle.tv_model.specs.declared.desc.Dialog.{Dialog}
use Rattle.tv_model.specs.declared.desc.MenuItem.{MenuItem}
use Rattle.tv_model.specs.declared.kind.Kind.{Kind}
use Rattle.tv_model.specs.declared.kind.Kind.TheVariants as kinds
use Rattle.tv_model.specs.declared.node.Id.{Id}
use Rattle.tv_model.specs.declared.node.Node.{Node}
use Rattle.tv_model.specs.Description.Commands.{command_number}

-- a menu is open only while no dialog is, so that nothing ends
abbrev pub is_end_command : CommandSpec → Bool
is_end_command commands.Ok = true
is_end_command commands.Cancel = true
is_end_command commands.Yes = true
is_end_command commands.No = true
is_end_command _ = false

-- a dialog neither quits, nor opens menus, nor changes windows
abbrev pub is_desktop_command : CommandSpec → Bool
is_desktop_command commands.Quit = true
is_desktop_command commands.Menu = true
is_desktop_command commands.Next = true
is_desktop_command _ = false

-- a button that gives such a command
abbrev pub is_idle_kind : Kind → Bool
is_idle_kind (kinds.Button button) = is_desktop_command button.command
is_idle_kind _ = false

-- the menu items, by their ids
abbrev pub idle_items : List MenuItem → List Id
idle_items items = map (λ item. item.id) (filter (λ item. is_end_command item.command) items)

-- the buttons
abbrev pub idle_buttons : List Node → List Id
idle_buttons views = map (λ view. view.id) (filter (λ view. is_idle_kind view.kind) views)

-- all of a description: the menu items, and then the buttons
abbrev pub idle_commands : Desc → List Id
idle_commands d =
    flat_map (λ menu. idle_items menu.items) d.menus ++ flat_map (λ dialog. idle_buttons dialog.views) d.dialogs

-- ---- that they do nothing

-- while no dialog is open, the command changes nothing
abbrev pub IsIdleAlone : Desc → CommandSpec → Type 0
IsIdleAlone d c = (s : State) → s.dialog ≡ None → do_command d (command_number c) s ≡ s

-- nothing of the open dialog changes by the command
abbrev pub IsIdleIn : Dialog → CommandSpec → Type 0
IsIdleIn dialog c = (m : Modal) → command dialog (command_number c) m ≡ m

-- the commands of those items do nothing, nor do those of the buttons
pub record AreIdle (d : Desc) : Type 0 where
  pub items : (c : CommandSpec) → is_end_command c ≡ true → IsIdleAlone d c
  pub buttons : (dialog : Dialog) (c : CommandSpec) → is_desktop_command c ≡ true → IsIdleIn dialog c
