-- Faults of limits: F15.
use Rattle.std.specs.Prelude.{ℕ, Bool, true, not, ◌&&◌, ◌||◌, List, length, Option, Some, pos, neg_ℤ, ◌==◌}
use Rattle.std.specs.Prelude.{nat_le}
use Rattle.std.specs.List.{list_any}
use Rattle.tv_model.specs.declared.node.Node.{Node}
use Rattle.tv_model.specs.declared.kind.Kind.{Kind}
use Rattle.tv_model.specs.declared.kind.Kind.TheVariants as kinds
use Rattle.tv_model.specs.declared.command.CommandSpec.{CommandSpec}
use Rattle.tv_model.specs.declared.command.CommandSpec.TheVariants as commands
use Rattle.tv_model.specs.declared.desc.Desc.{Desc}
use Rattle.tv_model.specs.declared.desc.Menu.{Menu}
use Rattle.tv_model.specs.declared.desc.MenuItem.{MenuItem}
use Rattle.tv_model.specs.declared.desc.StatusItem.{StatusItem}
use Rattle.tv_model.specs.declared.desc.Window.{Window}
use Rattle.tv_model.specs.declared.desc.Dialog.{Dialog}
use Rattle.tv_model.specs.declared.desc.Rule.{Rule}
use Rattle.tv_model.specs.declared.desc.Effect.{Effect}
use Rattle.tv_model.specs.declared.desc.Effect.TheVariants as effects
use Rattle.tv_model.specs.Description.Nodes.{height_of, is_pane}
use Rattle.tv_model.specs.Description.Texts.{texts_of}
use Rattle.tv_model.specs.Description.Numbers.{is_between}
use Rattle.tv_model.specs.Description.Commands.{command_of}
pub use Rattle.tv_model.specs.Description.Limits.{least_height, least_width, most_chars, most_dialogs}
pub use Rattle.tv_model.specs.Description.Limits.{most_menu_items, most_menus, most_nested, most_rules}
pub use Rattle.tv_model.specs.Description.Limits.{most_status_items, most_views, most_windows}

-- ---- how many items there may be

-- items of a cluster or a list; other declarations have none
abbrev pub is_lawful_count : Kind → Bool
is_lawful_count (kinds.CheckBoxes boxes) = nat_le 1 (length boxes.items) && nat_le (length boxes.items) 16
is_lawful_count (kinds.RadioButtons radios) =
    nat_le 1 (length radios.items) && nat_le (length radios.items) 16
is_lawful_count (kinds.List list) = nat_le 1 (length list.items) && nat_le (length list.items) 100
is_lawful_count _ = true

-- ---- how large numbers may be

-- columns and rows of the screen
abbrev pub is_lawful_screen : Desc → Bool
is_lawful_screen d = is_between (pos 20) (pos 132) d.width && is_between (pos 10) (pos 60) d.height

-- how far a corner may stand off
abbrev pub is_lawful_corner : Node → Bool
is_lawful_corner node =
    is_between (neg_ℤ (pos 132)) (pos 132) node.x && is_between (neg_ℤ (pos 132)) (pos 132) node.y

-- clusters are as high as they have items, which have a limit of their own
abbrev pub is_lawful_size : Node → Bool
is_lawful_size node =
    is_between (least_width node.kind) (pos 132) node.w
    && is_between (least_height node.kind) (pos 60) (height_of node.kind)

-- commands that a description numbers
abbrev pub is_lawful_number : Option CommandSpec → Bool
is_lawful_number (Some (commands.Number n)) = is_between (pos 100) (pos 255) n
is_lawful_number _ = true

-- a window's number, and the most characters of an input
abbrev pub is_lawful_amount : Kind → Bool
is_lawful_amount (kinds.Window head) = is_between (pos 0) (pos 9) head.number
is_lawful_amount (kinds.Input input) = is_between (pos 1) (pos 120) input.spec.max
is_lawful_amount _ = true

-- ---- declarations outside the limits. Of too many things the first that is too many is named

-- whether the text has too many characters
abbrev pub is_too_long : List ℕ → Bool
is_too_long text = not (nat_le (length text) most_chars)

-- whether all numbers and texts of a node lie within the limits
abbrev pub is_lawful : Node → Bool
is_lawful node =
    ((is_lawful_corner node && is_lawful_size node)
    && (is_lawful_count node.kind && is_lawful_amount node.kind))
    && (is_lawful_number (command_of node.kind) && not (list_any is_too_long (texts_of node.kind)))

-- F15: a menu
abbrev pub menu_outside_limits : List Menu → Menu → Bool
menu_outside_limits before menu = is_too_long menu.title.text || (length before == most_menus)

-- F15: an item of a menu
abbrev pub item_outside_limits : List MenuItem → MenuItem → Bool
item_outside_limits before item =
    not (is_lawful_number (Some item.command))
    || (is_too_long item.text.text || (length before == most_menu_items))

-- F15: a status item
abbrev pub status_outside_limits : List StatusItem → StatusItem → Bool
status_outside_limits before item =
    not (is_lawful_number (Some item.command))
    || (is_too_long item.text || (length before == most_status_items))

-- F15: a window
abbrev pub window_outside_limits : List Window → Window → Bool
window_outside_limits before window = not (is_lawful window.node) || (length before == most_windows)

-- F15: a dialog
abbrev pub dialog_outside_limits : List Dialog → Dialog → Bool
dialog_outside_limits before dialog = not (is_lawful dialog.node) || (length before == most_dialogs)

-- F15: a view. Of panes in one another that is the one with four around it
abbrev pub view_outside_limits : List Node → Node → Bool
view_outside_limits before node =
    not (is_lawful node)
    || ((length before == most_views) || (is_pane node.kind && (node.depth == most_nested)))

-- F15: a rule
abbrev pub rule_outside_limits : List Rule → Rule → Bool
rule_outside_limits before rule = not (is_lawful_effect rule.effect) || (length before == most_rules)
  where
    is_lawful_effect : Effect → Bool
    is_lawful_effect (effects.Enable command) = is_lawful_number (Some command)
    is_lawful_effect (effects.Show name) = true
