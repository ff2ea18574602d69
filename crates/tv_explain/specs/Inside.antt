-- What stands in a window or dialog.
use Rattle.std.specs.Prelude.{List, Option, None}
use Rattle.tv_model.specs.declared.node.Node.{Node}
use Rattle.tv_model.specs.declared.desc.Dialog.{Dialog}
use Rattle.tv_model.specs.declared.desc.Rule.{Rule}
use Rattle.tv_model.specs.declared.desc.Window.{Window}
use Rattle.tv_model.specs.declared.desc.Version.{Version}
use Rattle.tv_model.specs.Description.Sharing.{sharing_rules}

-- a frame, the views in it, and the rules by which letters of these may be shared, if any
pub record Framed : Type 0 where
  pub frame : Node
  pub sharing : Option (List Rule)
  pub views : List Node

abbrev pub in_frame : Window → Framed
in_frame window = record { frame = window.node; sharing = None; views = window.views }

-- what stands in a dialog, and all its rules
pub record Ruled : Type 0 where
  pub inside : Framed
  pub rules : List Rule

abbrev pub ruled : Version → Dialog → Ruled
ruled version dialog = record {
  inside = record { frame = dialog.node; sharing = sharing_rules version dialog.rules; views = dialog.views };
  rules = dialog.rules;
}
