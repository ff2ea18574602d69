-- The heads of windows and dialogs, which are what their own lines declare, and all nodes of a description.
use Rattle.std.specs.Prelude.{ℕ, Bool, List, ◌∷◌, ◌++◌, flat_map, IsTrue, bytes_eq}
use Rattle.std.proofs.lemmas.Bool.{false≢true}
use Rattle.tv_model.specs.declared.node.Node.{Node}
use Rattle.tv_model.specs.declared.kind.Kind.{Kind}
use Rattle.tv_model.specs.declared.kind.Kind.TheVariants as kinds
use Rattle.tv_model.specs.declared.kind.WindowHead.{WindowHead}
use Rattle.tv_model.specs.declared.kind.DialogHead.{DialogHead}
use Rattle.tv_model.specs.declared.desc.Desc.{Desc}
use Rattle.tv_model.specs.declared.desc.Window.{Window}
use Rattle.tv_model.specs.declared.desc.Dialog.{Dialog}
use Rattle.tv_model.specs.Description.Nodes.{is_window, is_dialog}

-- the head of a window's kind
abbrev pub window_head_of : (kind : Kind) → IsTrue (is_window kind) → WindowHead
window_head_of (kinds.Window head) is = head
window_head_of _ is = absurd (false≢true is)

-- the head of a dialog's kind
abbrev pub dialog_head_of : (kind : Kind) → IsTrue (is_dialog kind) → DialogHead
dialog_head_of (kinds.Dialog head) is = head
dialog_head_of _ is = absurd (false≢true is)

-- what the line of a window declares
abbrev pub window_head : Window → WindowHead
window_head window = window_head_of window.node.kind window.own_kind

-- what the line of a dialog declares
abbrev pub dialog_head : Dialog → DialogHead
dialog_head dialog = dialog_head_of dialog.node.kind dialog.own_kind

-- the dialog has the name
abbrev pub is_named : List ℕ → Dialog → Bool
is_named name dialog = bytes_eq (dialog_head dialog).name name

-- a window and its texts
abbrev pub window_nodes : Window → List Node
window_nodes window = window.node ∷ window.views

-- a dialog and its views
abbrev pub dialog_nodes : Dialog → List Node
dialog_nodes dialog = dialog.node ∷ dialog.views

-- all nodes of a description, in description order
abbrev pub all_nodes : Desc → List Node
all_nodes d = flat_map window_nodes d.windows ++ flat_map dialog_nodes d.dialogs
