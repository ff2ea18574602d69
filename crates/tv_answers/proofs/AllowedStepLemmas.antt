-- An event of a run ends the open dialog by `cancel`, or by a command that its rules enable.
use Rattle.std.proofs.Common.{◌≡◌, ℕ, true, Option, Some, None, refl, sym, ap, subst, ◌∙◌, All}
use Rattle.std.specs.Prelude.{slice_get}
use Rattle.std.proofs.lemmas.List.Elements.{All-nil, All-weaker}
use Rattle.tv_event.specs.declared.event.Event.{Event}
use Rattle.tv_event.specs.declared.event.Event.TheVariants as events
use Rattle.tv_cells.specs.declared.rect.Point.{Point}
use Rattle.tv_model.specs.declared.desc.Desc.{Desc}
use Rattle.tv_model.specs.declared.desc.Dialog.{Dialog}
use Rattle.tv_model.specs.declared.log.LogLine.{LogLine}
use Rattle.tv_model.specs.declared.log.LogLine.TheVariants as lines
use Rattle.tv_machine.specs.Dialog.Modal.{Modal}
use Rattle.tv_machine.specs.Session.Commands.{after_work, modal_of}
use Rattle.tv_machine.specs.Session.Enabled.{enabled_by, enabled_in}
use Rattle.tv_machine.specs.Session.Step.{event_from, step}
use Rattle.tv_machine.specs.State.{OpenDialog, State}
use Rattle.tv_laws.specs.Fit.{IsFitModal}
use Rattle.tv_laws.specs.Records.{IsNoEnd}
use Rattle.tv_laws.specs.Runs.{IsFitState}
use Rattle.tv_answers.proofs.AllowedLemmas.{IsAllowed, IsAllowedLine, IsByUser, commanded, step_allowed}
use Rattle.tv_answers.proofs.WorkStepLemmas.{event_comes, quiet}

-- an event that is seen from another corner is by the user, too
pub seen_by : (corner : Point) (e : Event) → IsByUser e → IsByUser (event_from corner e)
seen_by corner (events.Key k) by = tt
seen_by corner (events.Down p) by = tt
seen_by corner (events.Move p) by = tt
seen_by corner (events.Up p) by = tt
seen_by corner (events.Command c) by = absurd by
seen_by corner (events.Broadcast c) by = tt

-- the open dialog is fit at work
pub fit_work : (d : Desc) (s : State) (f : IsFitState d s) (o : OpenDialog) (some : s.dialog ≡ Some o) (dialog : Dialog) → slice_get d.dialogs o.place ≡ Some dialog → IsFitModal dialog (modal_of s o)
fit_work d s f o some dialog there =
    let x = f.«open» o some in
    let both : Some x.dialog ≡ Some dialog = sym x.there ∙ there in
    let same : x.dialog ≡ dialog = cc in
    subst (λ (own : Dialog). IsFitModal own (modal_of s o)) same x.fit

module _ (d : Desc) (s : State) (f : IsFitState d s) (o : OpenDialog) (some : s.dialog ≡ Some o) (dialog : Dialog) (there : slice_get d.dialogs o.place ≡ Some dialog) where
  abbrev Allows : State → Type 0
  Allows after = All (IsAllowedLine dialog o.leaves) after.log

  nothing : All (IsAllowedLine dialog o.leaves) (modal_of s o).log
  nothing = All-nil (IsAllowedLine dialog o.leaves)

  worked_log : (m : Modal) (over : Option ℕ) → (after_work (quiet d s f o some dialog there) o m over).log ≡ m.log
  worked_log m None = refl
  worked_log m (Some number) = refl

  no_end_allowed : (line : LogLine) → IsNoEnd line → IsAllowedLine dialog o.leaves line
  no_end_allowed (lines.End i given) none = absurd none
  no_end_allowed _ none = tt

  enabled_is : (number : ℕ) → enabled_in d s.dialog number ≡ true → IsAllowed dialog o.leaves number
  enabled_is number is other = ap (enabled_by o.leaves number) (sym there) ∙ ap (λ x. enabled_in d x number) (sym some) ∙ is

  pub event_allows : (e : Event) → Allows (step d s e)
  event_allows e =
      event_comes d s f o some dialog there e (λ m. All (IsAllowedLine dialog o.leaves) m.log) Allows
      (λ m all. subst (All (IsAllowedLine dialog o.leaves)) (sym (worked_log m m.ended)) all)
      (λ t stands. All-weaker IsNoEnd (IsAllowedLine dialog o.leaves) no_end_allowed t.log stands.0)
      (λ corner by. step_allowed dialog (modal_of s o) (fit_work d s f o some dialog there) nothing (event_from corner e) (seen_by corner e by))
      (λ number is. commanded dialog o.leaves number (modal_of s o) (enabled_is number is) nothing)
