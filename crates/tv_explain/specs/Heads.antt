-- Names and openings of windows and dialogs: F1 and F16.
use Rattle.std.specs.Prelude.{ℕ, List, find, Option, Some, None, option_map, ℤ, pos, if◌then◌else◌}
use Rattle.std.specs.Option.{option_map_or, option_or}
use Rattle.tv_model.specs.declared.node.Node.{Node}
use Rattle.tv_model.specs.declared.desc.Desc.{Desc}
use Rattle.tv_model.specs.declared.desc.Window.{Window}
use Rattle.tv_model.specs.declared.desc.Dialog.{Dialog}
use Rattle.tv_model.specs.Description.Heads.{dialog_head}
use Rattle.tv_model.specs.Description.Names.{gives_name, shares_name}
use Rattle.tv_model.specs.Description.Numbers.{is_between}
use Rattle.tv_model.specs.Faults.Starts.{is_option_number}
use Rattle.tv_explain.specs.declared.why.Why.{Why}
use Rattle.tv_explain.specs.declared.why.Reason.TheVariants as reasons
use Rattle.tv_explain.specs.Whys.{because, itself}

-- F1: the first of the windows that has the node's name
abbrev pub window_named : List Window → Node → Option ℕ
window_named windows node =
    option_map (λ other. other.node.id.0) (find (λ other. shares_name node other.node) windows)

-- F1: the first of the dialogs that has the node's name
abbrev pub dialog_before : List Dialog → Node → Option ℕ
dialog_before dialogs node =
    option_map (λ other. other.node.id.0) (find (λ other. shares_name node other.node) dialogs)

-- F1: the first window, or else the first dialog before, that has the dialog's name
abbrev pub dialog_named : Desc → List Dialog → Dialog → Option ℕ
dialog_named d before dialog =
    option_or (window_named d.windows dialog.node) (dialog_before before dialog.node)

-- F16: the first dialog before that this command opens
abbrev pub opened_by : ℤ → List Dialog → Option ℕ
opened_by n before =
    option_map
    (λ other. other.node.id.0) (find (λ other. is_option_number n (dialog_head other).opens) before)

-- F16: the dialog's command is none that a description may number, or opens a dialog before
abbrev pub opening_why : List Dialog → Dialog → Why
opening_why before dialog = opening (dialog_head dialog).opens
  where
    opening : Option ℤ → Why
    opening None = itself
    opening (Some n) =
        if is_between (pos 100) (pos 255) n
        then because reasons.OpeningTwice (opened_by n before)
        else because reasons.OpeningOutside None

-- F16: the first window of this name
abbrev pub window_called : List ℕ → List Window → Option ℕ
window_called name windows =
    option_map (λ window. window.node.id.0) (find (λ window. gives_name name window.node) windows)

-- F16: the start names a window, or nothing
abbrev pub start_why : List ℕ → List Window → Why
start_why name windows =
    option_map_or (λ line. because reasons.StartWindow (Some line)) (window_called name windows)
    (because reasons.StartUnknown None)
