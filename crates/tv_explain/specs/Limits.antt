-- What is outside the limits: F15. Of several the first is told, and a text that is too long is what remains.
use Rattle.std.specs.Prelude.{ℕ, ◌&&◌, List, length, Some, pos, ◌==◌, if◌then◌else◌}
use Rattle.tv_model.specs.declared.node.Node.{Node}
use Rattle.tv_model.specs.declared.command.CommandSpec.{CommandSpec}
use Rattle.tv_model.specs.declared.desc.Menu.{Menu}
use Rattle.tv_model.specs.declared.desc.MenuItem.{MenuItem}
use Rattle.tv_model.specs.declared.desc.StatusItem.{StatusItem}
use Rattle.tv_model.specs.declared.desc.Window.{Window}
use Rattle.tv_model.specs.declared.desc.Dialog.{Dialog}
use Rattle.tv_model.specs.declared.desc.Rule.{Rule}
use Rattle.tv_model.specs.Description.Commands.{command_of}
use Rattle.tv_model.specs.Description.Nodes.{height_of, is_pane}
use Rattle.tv_model.specs.Description.Numbers.{is_between}
use Rattle.tv_model.specs.Faults.Limits.{is_lawful_amount, is_lawful_corner, is_lawful_count}
use Rattle.tv_model.specs.Faults.Limits.{is_lawful_number, least_height, least_width, most_dialogs}
use Rattle.tv_model.specs.Faults.Limits.{most_menu_items, most_menus, most_nested, most_rules}
use Rattle.tv_model.specs.Faults.Limits.{most_status_items, most_views, most_windows}
use Rattle.tv_explain.specs.declared.why.Reason.{Reason}
use Rattle.tv_explain.specs.declared.why.Reason.TheVariants as reasons

-- what is outside in the line of a window, a dialog or a view
abbrev pub node_reason : Node → Reason
node_reason node =
    if is_lawful_count node.kind
    then
    (if is_lawful_corner node
    then
    (if is_between (least_width node.kind) (pos 132) node.w
    then
    (if is_between (least_height node.kind) (pos 60) (height_of node.kind)
    then
    (if is_lawful_amount node.kind
    then (if is_lawful_number (command_of node.kind) then reasons.TextLength else reasons.CommandNumber)
    else reasons.Amount)
    else reasons.Height)
    else reasons.Width)
    else reasons.Corner)
    else reasons.Items

-- the first one too many, or what remains
abbrev pub too_many_or : ℕ → ℕ → Reason → Reason
too_many_or most count reason = if count == most then reasons.TooMany else reason

-- the number of a command, or what remains
abbrev pub number_or : CommandSpec → Reason → Reason
number_or command reason = if is_lawful_number (Some command) then reason else reasons.CommandNumber

abbrev pub menu_limit : List Menu → Reason
menu_limit before = too_many_or most_menus (length before) reasons.TextLength

abbrev pub item_limit : List MenuItem → MenuItem → Reason
item_limit before item =
    too_many_or most_menu_items (length before) (number_or item.command reasons.TextLength)

abbrev pub status_limit : List StatusItem → StatusItem → Reason
status_limit before item =
    too_many_or most_status_items (length before) (number_or item.command reasons.TextLength)

abbrev pub window_limit : List Window → Window → Reason
window_limit before window = too_many_or most_windows (length before) (node_reason window.node)

abbrev pub dialog_limit : List Dialog → Dialog → Reason
dialog_limit before dialog = too_many_or most_dialogs (length before) (node_reason dialog.node)

abbrev pub view_limit : List Node → Node → Reason
view_limit before node =
    too_many_or most_views (length before)
    (if is_pane node.kind && (node.depth == most_nested) then reasons.Nested else node_reason node)

abbrev pub rule_limit : List Rule → Reason
rule_limit before = too_many_or most_rules (length before) reasons.CommandNumber
