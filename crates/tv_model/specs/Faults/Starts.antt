-- Faults of ends, default buttons, starts and opening commands: F10, F11, F13 and F16.
use Rattle.std.specs.Prelude.{ℕ, Bool, false, not, ◌&&◌, ◌||◌, List, length, Option, Some, None, ℤ, pos}
use Rattle.std.specs.List.{list_any}
use Rattle.std.specs.Ordering.{int_eq}
use Rattle.tv_model.specs.declared.node.Node.{Node}
use Rattle.tv_model.specs.declared.kind.Kind.{Kind}
use Rattle.tv_model.specs.declared.kind.Kind.TheVariants as kinds
use Rattle.tv_model.specs.declared.command.Ends.{Ends}
use Rattle.tv_model.specs.declared.command.CommandSpec.{CommandSpec}
use Rattle.tv_model.specs.declared.command.CommandSpec.TheVariants as commands
use Rattle.tv_model.specs.declared.desc.Desc.{Desc}
use Rattle.tv_model.specs.declared.desc.Dialog.{Dialog}
use Rattle.tv_model.specs.Description.Commands.{command_of}
use Rattle.tv_model.specs.Description.Heads.{dialog_head, is_named}
use Rattle.tv_model.specs.Description.Nodes.{is_default}
use Rattle.tv_model.specs.Description.Names.{gives_name}
use Rattle.tv_model.specs.Description.Rules.{is_item}
use Rattle.tv_model.specs.Description.Numbers.{is_between}

-- F10: a dialog whose ends lack `cancel`
abbrev pub lacks_cancel : Dialog → Bool
lacks_cancel dialog = not (dialog_head dialog).ends.cancel

-- F10: a button of `ok`, `yes` or `no` that isn't among the ends of its dialog
abbrev pub lacks_end : Ends → Node → Bool
lacks_end ends node = lacking (command_of node.kind)
  where
    lacking : Option CommandSpec → Bool
    lacking (Some commands.Ok) = not ends.ok
    lacking (Some commands.Yes) = not ends.yes
    lacking (Some commands.No) = not ends.no
    lacking _ = false

-- F11: a second default button of a dialog
abbrev pub is_second_default : List Node → Node → Bool
is_second_default before node = is_default node && list_any is_default before

-- F13: a start item that there isn't
abbrev pub starts_outside : Kind → Bool
starts_outside (kinds.CheckBoxes boxes) =
    list_any (λ item. not (is_item item (length boxes.items))) boxes.start
starts_outside (kinds.RadioButtons radios) = not (is_item radios.start (length radios.items))
starts_outside (kinds.List list) = not (is_item list.start (length list.items))
starts_outside _ = false

-- whether it is this number
abbrev pub is_option_number : ℤ → Option ℤ → Bool
is_option_number n None = false
is_option_number n (Some other) = int_eq other n

-- F16: a dialog whose opening command is outside 100 to 255 or was given before
abbrev pub opens_badly : List Dialog → Dialog → Bool
opens_badly before dialog = opening (dialog_head dialog).opens
  where
    opening : Option ℤ → Bool
    opening None = false
    opening (Some n) =
        not (is_between (pos 100) (pos 255) n)
        || list_any (λ other. is_option_number n (dialog_head other).opens) before

-- a name of the start means a dialog: one has it, and no window, which would come first
abbrev pub means_dialog : Desc → List ℕ → Bool
means_dialog d name =
    not (list_any (λ window. gives_name name window.node) d.windows) && list_any (is_named name) d.dialogs

-- F16: a `start` that names no dialog
abbrev pub starts_nowhere : Desc → Bool
starts_nowhere d = starting d.start
  where
    starting : Option (List ℕ) → Bool
    starting None = false
    starting (Some name) = not (means_dialog d name)
