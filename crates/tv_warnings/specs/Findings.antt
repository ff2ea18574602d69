-- What there is to warn of in a sound description.
use Rattle.std.specs.Prelude.{◌≡◌, [], ℕ, Bool, true, false, List, ◌∷◌, ◌++◌, All, Any, Option, Some, None, codes}
use Rattle.std.specs.Prelude.{filter, flat_map, if◌then◌else◌, map, slice_get, ◌==◌}
use Rattle.std.specs.List.{AllZip, list_any}
use Rattle.tv_event.specs.Commands.{cm_cancel, cm_no, cm_ok, cm_yes}
use Rattle.tv_event.specs.declared.event.Command.{Command}
use Rattle.tv_model.specs.declared.command.CommandSpec.{CommandSpec}
use Rattle.tv_model.specs.declared.command.CommandSpec.TheVariants as commands
use Rattle.tv_model.specs.declared.desc.Desc.{Desc}
use Rattle.tv_model.specs.declared.desc.Dialog.{Dialog}
use Rattle.tv_model.specs.declared.kind.Kind.{Kind}
use Rattle.tv_model.specs.declared.kind.Kind.TheVariants as kinds
use Rattle.tv_model.specs.declared.node.Id.{Id}
use Rattle.tv_model.specs.declared.node.Node.{Node}
use Rattle.tv_model.specs.Description.Nodes.{node_of}
use Rattle.tv_reach.specs.declared.answer.Answer.{Answer}
use Rattle.tv_reach.specs.declared.answer.Answer.TheVariants as answers
use Rattle.tv_reach.specs.declared.answer.Reason.{Reason}
use Rattle.tv_reach.specs.declared.answer.Reason.TheVariants as reasons
use Rattle.tv_reach.specs.declared.goal.Goal.{Goal}
use Rattle.tv_reach.specs.declared.goal.Goal.TheVariants as goals
use Rattle.tv_warnings.specs.declared.finding.End.{End}
use Rattle.tv_warnings.specs.declared.finding.Finding.{Finding}
use Rattle.tv_warnings.specs.declared.finding.Finding.TheVariants as found
use Rattle.tv_warnings.specs.declared.finding.Member.{Member}
use Rattle.tv_warnings.specs.declared.finding.RefusedEnd.{RefusedEnd}
use Rattle.tv_ways.specs.Asking.{IsWay, goals_of}
use Rattle.tv_ways.specs.Cuts.{cuts_of}
use Rattle.tv_ways.specs.Idle.{idle_commands}
use Rattle.tv_ways.specs.Refusing.{IsRefused}
use Rattle.tv_ways.specs.declared.asking.Way.{Way}
use Rattle.tv_ways.specs.declared.cuts.Cut.{Cut}
use Rattle.tv_ways.specs.declared.cuts.Lost.{Lost}
use Rattle.tv_ways.specs.declared.cuts.Lost.TheVariants as lost

-- ---- what findings are called, and where they are

abbrev pub cut_code : Lost → List ℕ
cut_code lost.Character = codes "W8"
cut_code lost.Letter = codes "W9"

abbrev pub code_of : Finding → List ℕ
code_of (found.NotOpened i) = codes "W1"
code_of (found.NoGiver end) = codes "W2"
code_of (found.NotGiven end) = codes "W3"
code_of (found.Blocked end) = codes "W4"
code_of (found.NotFocused member) = codes "W5"
code_of (found.NotShown member) = codes "W6"
code_of (found.Refused end) = codes "W7"
code_of (found.Cut cut) = cut_code cut.lost
code_of (found.Idle i) = codes "W10"
code_of (found.Unknown what) = codes "note"

-- what was given up is noted
abbrev pub is_warning : Finding → Bool
is_warning (found.Unknown what) = false
is_warning finding = true

-- ---- what answers tell

abbrev pub end_at : Id → Command → End
end_at dialog c = record { dialog = dialog; command = c }

abbrev pub member_at : Id → Id → Member
member_at dialog i = record { dialog = dialog; view = i }

-- a goal that no events reach. Of a dialog that is never opened only that is told
abbrev pub never_found : Id → Goal → Reason → Option Finding
never_found dialog goals.Opens why = Some (found.NotOpened dialog)
never_found dialog (goals.Ends c) reasons.NoGiver = Some (found.NoGiver (end_at dialog c))
never_found dialog (goals.Ends c) reasons.NotGiven = Some (found.NotGiven (end_at dialog c))
never_found dialog (goals.Ends c) (reasons.Blocked i) =
    Some (found.Blocked (record { end = end_at dialog c; input = i }))
never_found dialog (goals.Focuses i) reasons.NotFree = Some (found.NotFocused (member_at dialog i))
never_found dialog (goals.Shows i) reasons.NotShown = Some (found.NotShown (member_at dialog i))
never_found dialog goal why = None

-- a goal that was given up. Whether a label or a text is shown no run tells, so of those nothing is told
abbrev pub unknown_found : Id → Goal → Option Finding
unknown_found dialog (goals.Shows i) = None
unknown_found dialog goal = Some (found.Unknown (record { dialog = dialog; goal = goal }))

abbrev pub answer_found : Id → Goal → Answer → Option Finding
answer_found dialog goal (answers.Way events) = None
answer_found dialog goal (answers.Never why) = never_found dialog goal why
answer_found dialog goal answers.Unknown = unknown_found dialog goal

-- ---- a button whose end is told of already

abbrev pub ends_by : CommandSpec → ℕ → Bool
ends_by commands.Ok number = number == cm_ok
ends_by commands.Yes number = number == cm_yes
ends_by commands.No number = number == cm_no
ends_by _ number = false

-- the command's givers are never shown and enabled
abbrev pub is_ungiven_by : CommandSpec → Goal → Answer → Bool
is_ungiven_by c (goals.Ends other) (answers.Never reasons.NotGiven) = ends_by c other.0
is_ungiven_by c goal answer = false

abbrev pub is_ungiven_kind : List Way → Kind → Bool
is_ungiven_kind ways (kinds.Button button) =
    list_any (λ way. is_ungiven_by button.command way.goal way.answer) ways
is_ungiven_kind ways kind = false

abbrev pub is_ungiven_node : List Way → Option Node → Bool
is_ungiven_node ways None = false
is_ungiven_node ways (Some node) = is_ungiven_kind ways node.kind

abbrev pub is_told_of : List Node → List Way → Goal → Bool
is_told_of views ways (goals.Focuses i) = is_ungiven_node ways (node_of views i)
is_told_of views ways goal = false

-- ---- a dialog

-- labels and texts, which never have the focus
abbrev pub is_only_shown : Kind → Bool
is_only_shown (kinds.Label label) = true
is_only_shown (kinds.Text text) = true
is_only_shown kind = false

abbrev pub shown_goals : List Node → List Goal
shown_goals views = map (λ view. goals.Shows view.id) (filter (λ view. is_only_shown view.kind) views)

-- what is asked of a dialog: its ends, the focus of its controls, whether it opens, and whether its labels and texts
-- are shown
abbrev pub asked_of : Dialog → List Goal
asked_of dialog = goals_of dialog ++ (goals.Opens ∷ []) ++ shown_goals dialog.views

abbrev pub listed : Option Finding → List Finding
listed None = []
listed (Some finding) = finding ∷ []

abbrev pub way_findings : Dialog → List Way → Way → List Finding
way_findings dialog ways way =
    if is_told_of dialog.views ways way.goal then []
    else listed (answer_found dialog.node.id way.goal way.answer)

-- the end to which the answer has a way, but for `cancel`, which no input refuses
abbrev pub end_by : Goal → Answer → Option Command
end_by (goals.Ends command) (answers.Way events) = if command.0 == cm_cancel then None else Some command
end_by goal answer = None

abbrev pub end_reached : Way → Option Command
end_reached way = end_by way.goal way.answer

-- an end of the dialog to which there is a way, and which a hidden input refuses
abbrev pub IsRefusedEnd : Desc → ℕ → Dialog → Way → RefusedEnd → Type 0
IsRefusedEnd d place dialog way refused =
    (refused.end.dialog ≡ dialog.node.id) × (end_reached way ≡ Some refused.end.command)
    × IsRefused d place refused.input refused.events

-- such ends come behind what was found before
abbrev pub AddsRefused : Desc → ℕ → Dialog → List Way → (old new : List Finding) → Type 0
AddsRefused d place dialog ways old new =
    (refused : List RefusedEnd) × All (λ end. Any (λ way. IsRefusedEnd d place dialog way end) ways) refused
    × (new ≡ old ++ map (λ end. found.Refused end) refused)

-- what is found in the dialog at the place: what right answers tell, and then ends that are refused so
pub record IsFoundAt (d : Desc) (place : ℕ) (dialog : Dialog) (findings : List Finding) : Type 0 where
  pub ways : List Way
  pub right : AllZip (IsWay d place) (asked_of dialog) ways
  pub all : AddsRefused d place dialog ways (flat_map (way_findings dialog ways) ways) findings

abbrev pub IsFoundIn : Desc → Dialog → List Finding → Type 0
IsFoundIn d dialog findings =
    (place : ℕ) × (slice_get d.dialogs place ≡ Some dialog) × IsFoundAt d place dialog findings

-- ---- a description

-- what is found in each dialog, the texts that are cut, and the commands that do nothing
pub record AreFindings (d : Desc) (findings : List Finding) : Type 0 where
  pub each : List (List Finding)
  pub right : AllZip (IsFoundIn d) d.dialogs each
  pub all : findings ≡ flat_map (λ some. some) each
      ++ map (λ cut. found.Cut cut) (cuts_of d)
      ++ map (λ i. found.Idle i) (idle_commands d)
