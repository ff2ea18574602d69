-- Faults of names: F1 and F6.
use Rattle.std.specs.Prelude.{Bool, false, not, ◌||◌, List}
use Rattle.std.specs.List.{list_any}
use Rattle.tv_model.specs.declared.node.Node.{Node}
use Rattle.tv_model.specs.declared.kind.Kind.{Kind}
use Rattle.tv_model.specs.declared.kind.Kind.TheVariants as kinds
use Rattle.tv_model.specs.declared.desc.Desc.{Desc}
use Rattle.tv_model.specs.declared.desc.Window.{Window}
use Rattle.tv_model.specs.declared.desc.Dialog.{Dialog}
use Rattle.tv_model.specs.Description.Names.{meant, shares_name, is_control_option}

-- F1: a control or pane name given before in its dialog
abbrev pub names_again : List Node → Node → Bool
names_again before node = list_any (shares_name node) before

-- F1: a window name given before
abbrev pub window_named_again : List Window → Window → Bool
window_named_again before window = list_any (λ other. shares_name window.node other.node) before

-- F1: a dialog name given before, by a window or a dialog
abbrev pub dialog_named_again : Desc → List Dialog → Dialog → Bool
dialog_named_again d before dialog =
    list_any (λ window. shares_name dialog.node window.node) d.windows
    || list_any (λ other. shares_name dialog.node other.node) before

-- F6: a label whose name isn't a button, input, cluster or list of its dialog
abbrev pub links_nothing : List Node → Node → Bool
links_nothing views node = linking node.kind
  where
    linking : Kind → Bool
    linking (kinds.Label label) = not (is_control_option (meant views label.link))
    linking _ = false
