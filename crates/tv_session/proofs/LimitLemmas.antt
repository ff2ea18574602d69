-- What limited nodes and lawful commands are to the parts of a session.
use Rattle.std.proofs.Common.{◌≡◌, true, [], ℤ, ◌≤ℤ◌, Some, arith, pos, refl}
use Rattle.std.specs.Prelude.{IfSome}
use Rattle.std.proofs.lemmas.Int.{ints}
use Rattle.std.proofs.lemmas.List.Elements.{All-head}
use Rattle.tv_model.specs.declared.command.CommandSpec.{CommandSpec}
use Rattle.tv_model.specs.declared.command.CommandSpec.TheVariants as commands
use Rattle.tv_model.specs.declared.kind.Kind.{Kind}
use Rattle.tv_model.specs.declared.kind.Kind.TheVariants as kinds
use Rattle.tv_model.specs.declared.node.Node.{Node}
use Rattle.tv_model.specs.Description.LawfulNodes.{IsLawfulCommand, IsLimited, IsShort}
use Rattle.tv_model.specs.Faults.Limits.{is_lawful_number}
use Rattle.tv_model.specs.Description.Numbers.{IsBetween}
use Rattle.tv_model.specs.Description.Rectangles.{corner_of}
use Rattle.tv_faces.specs.Corners.{IsCorner, IsFrameSize}
use Rattle.tv_dialog.specs.Head as dialog
use Rattle.tv_faults.proofs.LetterLemmas.{between_decides}
use Rattle.tv_window.specs.Head as window

-- a lawful command, as a test
pub command_holds : (command : CommandSpec) → IsLawfulCommand (Some command) → is_lawful_number (Some command) ≡ true
command_holds (commands.Number n) lawful = (between_decides (pos 100) (pos 255) n).1 lawful
command_holds _ lawful = refl

-- a limited node stands near the screen
pub near_corner : (node : Node) → IsLimited node → IsCorner (corner_of node)
near_corner node limited = record { x = limited.x; y = limited.y }

-- a frame that is neither too small nor too large has a size that a screen has
frame_size : (w h : ℤ) → IsBetween (pos 12) (pos 132) w → IsBetween (pos 3) (pos 60) h → IsFrameSize w h
frame_size w h wide high = record {
  across = (omega (arith, ints, wide.0), wide.1);
  down = (omega (arith, ints, high.0), high.1);
}

-- what a dialog keeps of a limited node is limited
pub dialog_head_limited : (node : Node) → IsLimited node → IfSome (dialog.declared_dialog_head node) dialog.IsLimitedDialogHead
dialog_head_limited node limited = by node.kind refl
  where
    by : (kind : Kind) → node.kind ≡ kind → IfSome (dialog.declared_dialog_head node) dialog.IsLimitedDialogHead
    by (kinds.Dialog own) is = rw is (record {
      size = frame_size node.w own.h (rw is at limited.w) (rw is at limited.h);
      title = All-head IsShort own.title [] (rw is at limited.texts);
    })
    by _ is = rw is tt

-- and what a window keeps of one
pub window_head_limited : (node : Node) → IsLimited node → IfSome (window.declared_window_head node) window.IsLimitedWindowHead
window_head_limited node limited = by node.kind refl
  where
    by : (kind : Kind) → node.kind ≡ kind → IfSome (window.declared_window_head node) window.IsLimitedWindowHead
    by (kinds.Window own) is = let number = rw is at limited.amount in rw is (record {
      size = frame_size node.w own.h (rw is at limited.w) (rw is at limited.h);
      from = number.0;
      to = number.1;
      title = All-head IsShort own.title [] (rw is at limited.texts);
    })
    by _ is = rw is tt
