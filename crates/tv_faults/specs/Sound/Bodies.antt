-- Windows and dialogs as what has views.
use Rattle.std.specs.Prelude.{List, ◌++◌, map, All, Option, None}
use Rattle.tv_model.specs.declared.node.Node.{Node}
use Rattle.tv_model.specs.declared.command.Ends.{Ends}
use Rattle.tv_model.specs.declared.desc.Desc.{Desc}
use Rattle.tv_model.specs.declared.desc.Window.{Window}
use Rattle.tv_model.specs.declared.desc.Dialog.{Dialog}
use Rattle.tv_model.specs.declared.desc.Rule.{Rule}
use Rattle.tv_model.specs.declared.desc.Version.{Version}
use Rattle.tv_model.specs.Description.Commands.{no_ends}
use Rattle.tv_model.specs.Description.Heads.{dialog_head}
use Rattle.tv_model.specs.Description.Sharing.{sharing_rules}

-- a window or dialog: its own node, the commands by which it may end, the rules by which letters may be
-- shared, if any, and its views
pub record Body : Type 0 where
  pub frame : Node
  pub ends : Ends
  pub sharing : Option (List Rule)
  pub views : List Node

-- a window, which no command ends and which has no rules
abbrev pub window_body : Window → Body
window_body window = record { frame = window.node; ends = no_ends; sharing = None; views = window.views }

-- a dialog of a description of this version, with the ends that it declares
abbrev pub dialog_body : Version → Dialog → Body
dialog_body version dialog = record {
  frame = dialog.node;
  ends = (dialog_head dialog).ends;
  sharing = sharing_rules version dialog.rules;
  views = dialog.views;
}

-- all windows, then all dialogs
abbrev pub bodies_of : Desc → List Body
bodies_of d = map window_body d.windows ++ map (dialog_body d.version) d.dialogs

-- it holds of each window and dialog
abbrev pub EachBody : Desc → (Body → Type 0) → Type 0
EachBody d P = All P (bodies_of d)
