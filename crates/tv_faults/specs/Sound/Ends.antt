-- How dialogs open and end, and their default buttons.
use Rattle.std.specs.Prelude.{◌≡◌, ℕ, List, All, AllPairs, Any, Option, Some, ℤ, pos, IsTrue}
use Rattle.tv_model.specs.declared.node.Node.{Node}
use Rattle.tv_model.specs.declared.command.CommandSpec.{CommandSpec}
use Rattle.tv_model.specs.declared.command.CommandSpec.TheVariants as commands
use Rattle.tv_model.specs.declared.command.Ends.{Ends}
use Rattle.tv_model.specs.declared.desc.Desc.{Desc}
use Rattle.tv_model.specs.declared.desc.Dialog.{Dialog}
use Rattle.tv_model.specs.Description.Commands.{command_of}
use Rattle.tv_model.specs.Description.Heads.{dialog_head}
use Rattle.tv_model.specs.Description.Nodes.{is_default}
use Rattle.tv_model.specs.Description.Numbers.{IsBetween}
use Rattle.tv_faults.specs.Sound.Bodies.{EachBody}
use Rattle.tv_faults.specs.Sound.Names.{HasName}

-- ---- ends

-- `ok`, `yes` and `no` are among the ends, where a button gives one of them
abbrev pub IsAmongEnds : Ends → Option CommandSpec → Type 0
IsAmongEnds ends (Some commands.Ok) = IsTrue ends.ok
IsAmongEnds ends (Some commands.Yes) = IsTrue ends.yes
IsAmongEnds ends (Some commands.No) = IsTrue ends.no
IsAmongEnds ends _ = Unit {0}

-- a dialog can be cancelled, and its buttons end it by none but its ends
pub record HaveEnds (d : Desc) : Type 0 where
  pub cancel : All (λ dialog. IsTrue (dialog_head dialog).ends.cancel) d.dialogs
  pub buttons : EachBody d (λ body. All (λ view. IsAmongEnds body.ends (command_of view.kind)) body.views)

-- ---- default buttons

-- at most one of the two is declared to be the default
abbrev pub AreNotBothDefault : Node → Node → Type 0
AreNotBothDefault one other = IsTrue (is_default one) → IsTrue (is_default other) → ⊥

-- no window or dialog has two default buttons
abbrev pub HaveOneDefault : Desc → Type 0
HaveOneDefault d = EachBody d (λ body. AllPairs AreNotBothDefault body.views)

-- ---- openings

-- the command opens the dialog
abbrev pub OpensBy : Dialog → ℤ → Type 0
OpensBy dialog n = (dialog_head dialog).opens ≡ Some n

-- the name of the start means a dialog: one has it, and no window
pub record MeansDialog (d : Desc) (name : List ℕ) : Type 0 where
  pub dialog : Any (λ dialog. (dialog_head dialog).name ≡ name) d.dialogs
  pub no_window : All (λ window. HasName window.node name → ⊥) d.windows

-- dialogs open by commands from 100 to 255, each by its own, and the start is one of them
pub record HaveOpenings (d : Desc) : Type 0 where
  pub numbers : All (λ dialog. (n : ℤ) → OpensBy dialog n → IsBetween (pos 100) (pos 255) n) d.dialogs
  pub apart : AllPairs (λ dialog other. (n : ℤ) → OpensBy dialog n → OpensBy other n → ⊥) d.dialogs
  pub start : (name : List ℕ) → d.start ≡ Some name → MeansDialog d name
