-- What is told of findings.
use Rattle.std.specs.Prelude.{◌≡◌, ℕ, List, Option, Some, None, find, flat_map, slice_get, string_bytes, ◌==◌}
use Rattle.std.specs.List.{AllZip, list_any}
use Rattle.tv_advice.specs.Blocks.{IsBlockAt}
use Rattle.tv_advice.specs.declared.manner.Manner.{Manner}
use Rattle.tv_explain.specs.Places.{place}
use Rattle.tv_model.specs.declared.desc.Desc.{Desc}
use Rattle.tv_model.specs.declared.desc.Dialog.{Dialog}
use Rattle.tv_model.specs.declared.desc.Rule.{Rule}
use Rattle.tv_model.specs.declared.node.Id.{Id}
use Rattle.tv_warnings.specs.Findings.{AreFindings, code_of, is_warning}
use Rattle.tv_warnings.specs.declared.finding.Finding.{Finding}
use Rattle.tv_warnings.specs.declared.finding.Finding.TheVariants as found
use Rattle.tv_warnings.specs.declared.warning.Warned.{Warned}

-- ---- where a finding stands

-- the line of the dialog, the view or the item that it is about
abbrev pub line_of : Finding → Id
line_of (found.NotOpened i) = i
line_of (found.NoGiver end) = end.dialog
line_of (found.NotGiven end) = end.dialog
line_of (found.Blocked end) = end.input
line_of (found.NotFocused member) = member.view
line_of (found.NotShown member) = member.view
line_of (found.Refused end) = end.input
line_of (found.Cut cut) = cut.id
line_of (found.Idle i) = i
line_of (found.Unknown what) = what.dialog

-- the dialog whose rules may be the reason
abbrev pub ruled_in : Finding → Option Id
ruled_in (found.NotGiven end) = Some end.dialog
ruled_in (found.NotFocused member) = Some member.dialog
ruled_in finding = None

abbrev pub dialog_at : Desc → Id → Option Dialog
dialog_at d i = find (λ dialog. dialog.node.id.0 == i.0) d.dialogs

-- the line of a rule of the dialog
pub record IsRuleIn (dialog : Dialog) (line : Id) : Type 0 where
  pub at : ℕ
  pub rule : Rule
  pub within : slice_get dialog.rules at ≡ Some rule
  pub is : line ≡ rule.id

-- of the dialog on a line
pub record IsRuleOf (d : Desc) (i line : Id) : Type 0 where
  pub dialog : Dialog
  pub there : dialog_at d i ≡ Some dialog
  pub own : IsRuleIn dialog line

-- a finding stands on the line of what it is about, or on that of a rule because of which it is so
pub data StandsAt (d : Desc) (finding : Finding) (line : Id) : Type 0 where
  own : line ≡ line_of finding → StandsAt d finding line
  ruled : (i : Id) → ruled_in finding ≡ Some i → IsRuleOf d i line → StandsAt d finding line

-- ---- the report

-- the block of a finding begins with the file, the place of its line in the text, and what it is called
pub record IsWarning (manner : Manner) (name text : List ℕ) (d : Desc) (finding : Finding) (block : List ℕ) : Type 0 where
  pub line : Id
  pub stands : StandsAt d finding line
  pub begins : IsBlockAt manner name (place text line.0) (code_of finding) block

-- a block for each finding, in order, and nothing else
pub record IsWarningReport (manner : Manner) (name text : List ℕ) (d : Desc) (findings : List Finding) (report : List ℕ)
    : Type 0 where
  pub blocks : List (List ℕ)
  pub each : AllZip (IsWarning manner name text d) findings blocks
  pub all : report ≡ flat_map (λ block. block) blocks

-- the findings are told, and whether there is a warning
pub record IsWarned (manner : Manner) (name text : List ℕ) (d : Desc) (warned : Warned) : Type 0 where
  pub findings : List Finding
  pub found : AreFindings d findings
  pub report : IsWarningReport manner name text d findings (string_bytes warned.report)
  pub any : warned.is_any ≡ list_any is_warning findings
