-- What the code looks at in place of a dialog: its leaves with the rules that show them, and masks.
use Rattle.std.specs.Prelude.{◌≡◌, ◌≤◌, ◌↔◌, ℕ, true, List, length, Option, Some, None, All}
use Rattle.tv_model.specs.declared.command.CommandSpec.{CommandSpec}
use Rattle.tv_model.specs.declared.desc.Rule.{Rule}
use Rattle.tv_model.specs.Description.Commands.{command_number}
use Rattle.tv_machine.specs.Dialog.Rules.{enables}
use Rattle.tv_machine.specs.Leaves.{PlacedNode}
use Rattle.tv_reach.specs.declared.case.Case.{Case}
use Rattle.tv_reach.specs.declared.giving.Givers.{Givers}
use Rattle.tv_reach.specs.declared.mask.Mask.{Mask}
use Rattle.tv_reach.specs.declared.shown.ShownLeaf.{ShownLeaf}
use Rattle.tv_reach.specs.Never.{HasStatus}
use Rattle.tv_reach.specs.Shown.{AreShownLeaves, IsMaskOf, IsPart, IsShownLeaf, Passes}

-- none of the masks has all of these rules
abbrev pub IsInNone : List Mask → Mask → Type 0
IsInNone masks rules = All (λ mask. IsPart rules mask → ⊥) masks

-- the rule at the place enables the command, where there is a command
abbrev pub HasRuleFor : List Rule → Option CommandSpec → ℕ → Type 0
HasRuleFor rules None place = ⊥
HasRuleFor rules (Some command) place =
    Passes (λ rule. enables (command_number command) rule.effect) rules place

-- the leaves are the dialog's, whose rules a mask can hold
pub record IsCase (case : Case) : Type 0 where
  pub few : length case.dialog.now.rules ≤ 64
  pub leaves : AreShownLeaves case.dialog.now.views case.dialog.now.rules case.leaves.now

-- the leaf is the dialog's, with the rules that show it
abbrev pub IsLeafOf : Case → PlacedNode → ShownLeaf → Type 0
IsLeafOf case leaf shown = IsShownLeaf case.dialog.now.views case.dialog.now.rules leaf shown

-- what is looked at is what may give the command
pub record AreGivers (givers : Givers) : Type 0 where
  pub case : IsCase givers.case.now
  pub enabled :
      IsMaskOf (λ rule. enables givers.number rule.effect) givers.case.now.dialog.now.rules givers.enabled_by
  pub status : (givers.has_status ≡ true) ↔ HasStatus givers.case.now.desc.now givers.number
