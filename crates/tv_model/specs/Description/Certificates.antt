-- What a sound certificate tells of a description: the order of Tab, and the letters that may have an owner.
use Rattle.std.specs.Prelude.{ℕ, List, map, flat_map, Option, None, filter_map, codes, if◌then◌else◌}
use Rattle.tv_model.specs.declared.kind.Kind.{Kind}
use Rattle.tv_model.specs.declared.desc.Desc.{Desc}
use Rattle.tv_model.specs.declared.desc.Dialog.{Dialog}
use Rattle.tv_model.specs.Description.Nodes.{name_of, is_control}
use Rattle.tv_model.specs.Description.Heads.{dialog_head}

-- the letters that a text can mark, digits first
abbrev pub letters : List ℕ
letters = codes "0123456789ABCDEFGHIJKLMNOPQRSTUVWXYZ"

-- the name of a control
abbrev pub control_name : Kind → Option (List ℕ)
control_name kind = if is_control kind then name_of kind else None

-- the name of a dialog
abbrev pub dialog_name : Dialog → List ℕ
dialog_name dialog = (dialog_head dialog).name

-- the controls of a dialog in the order of Tab: that of the description, panes opened out
abbrev pub tabs_of : Dialog → List (List ℕ)
tabs_of dialog = filter_map (λ node. control_name node.kind) dialog.views

-- each control beside the name of its dialog, one dialog after the other
abbrev pub tab_order : Desc → List (List ℕ × List ℕ)
tab_order d = flat_map (λ dialog. map (λ name. (dialog_name dialog, name)) (tabs_of dialog)) d.dialogs
