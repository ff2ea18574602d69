-- Runs save what they log of a dialog that ends, and show it when it opens again.
use Rattle.std.proofs.Common.{◌≡◌, ◌⊎◌, inl, inr, true, ◌||◌, ℕ, zero, suc, List, length, position, replicate, Option, Some, None, unwrap_or, refl, sym, ap, ◌∙◌}
use Rattle.std.specs.Prelude.{slice_get}
use Rattle.std.proofs.lemmas.List.Elements.{All-nil, All-weaker}
use Rattle.tv_model.specs.declared.desc.Desc.{Desc}
use Rattle.tv_model.specs.Description.Commands.{is_declared, is_end}
use Rattle.tv_model.specs.Description.Heads.{dialog_head, is_named}
use Rattle.tv_model.specs.Log.Record.{Entries}
use Rattle.tv_machine.specs.State.{OpenDialog, State}
use Rattle.tv_machine.specs.Session.Commands.{saved_at}
use Rattle.tv_machine.specs.Session.Start.{closed, start, started_at, started_by}
use Rattle.tv_laws.specs.Records.{DeclareCancel, EndsAsDeclared, IsEnd, IsEndless, IsNoEnd, ReopensAsSaved, SavesWhatItLogs, ShowsSaved, StartsAsDeclared, opened_record}
use Rattle.tv_laws.specs.Runs.{HasSoundDialogs}
use Rattle.tv_laws.specs.Sound.{IsSoundDialog}
use Rattle.tv_laws.proofs.RecordLaws.EventLemmas.{IsCalm, next-told}
use Rattle.tv_laws.proofs.RecordLaws.IdleLemmas.{IsBeside, opens-beside, still-beside}
use Rattle.tv_laws.proofs.RunLemmas.{closed_kept}
use Rattle.tv_laws.proofs.WorkLemmas.{nothing}

-- no record is saved at first
abbrev none_yet : Option Entries
none_yet = None

none_saved : (n j : ℕ) → unwrap_or (slice_get (replicate n none_yet) j) none_yet ≡ none_yet
none_saved zero j = refl
none_saved (suc n) zero = refl
none_saved (suc n) (suc j) = none_saved n j

module _ (d : Desc) (sound : HasSoundDialogs d) where
  -- ---- ends

  pub ends-as-declared : EndsAsDeclared d
  ends-as-declared s f = f.kept.ends

  pub declare-cancel : DeclareCancel d
  declare-cancel =
      All-weaker IsSoundDialog (λ dialog. is_end (dialog_head dialog).ends 11 ≡ true)
      (λ dialog is. ap (λ b. b || is_declared (dialog_head dialog).ends 11) is.cancel) d.dialogs sound

  -- ---- the start

  at_beside : (place : Option ℕ) → IsBeside d (closed d) (started_at d place)
  at_beside None = still-beside d sound (closed d) (closed_kept d sound) (closed d) (All-nil IsNoEnd, refl, refl, refl)
  at_beside (Some place) = opens-beside d sound (closed d) (closed_kept d sound) place (closed d) (All-nil IsNoEnd, refl, refl, refl)

  by_beside : (name : Option (List ℕ)) → IsBeside d (closed d) (started_by d name)
  by_beside None = at_beside None
  by_beside (Some name) = at_beside (position (is_named name) d.dialogs)

  start_beside : IsBeside d (closed d) (start d)
  start_beside = by_beside d.start

  same_saved : (place : ℕ) → saved_at (start d) place ≡ saved_at (closed d) place
  same_saved place = ap (λ saved. unwrap_or (slice_get saved place) None) start_beside.saved

  pub starts-as-declared : StartsAsDeclared d
  starts-as-declared o e =
      let x = start_beside.shows o refl e in (
        record { dialog = x.dialog; there = x.there; shown = x.shown ∙ ap (opened_record x.dialog) (sym (same_saved o.place)) },
        same_saved o.place ∙ none_saved (length d.dialogs) o.place,
      )

  -- ---- what comes next

  saves : (s after : State) → IsCalm d s after ⊎ IsEnd d s after → IsEndless s after ⊎ IsEnd d s after
  saves s after (inl b) = inl b.endless
  saves s after (inr e) = inr e

  pub saves-what-it-logs : SavesWhatItLogs d
  saves-what-it-logs s after f comes = saves s after (next-told d sound s f after comes)

  reopens : (s after : State) (o : OpenDialog) → s.dialog ≡ None → after.dialog ≡ Some o → IsCalm d s after ⊎ IsEnd d s after → ShowsSaved d s o
  reopens s after o none some (inl b) = b.shows o none some
  reopens s after o none some (inr e) = absurd (nothing e.«open» (sym none ∙ e.was))

  pub reopens-as-saved : ReopensAsSaved d
  reopens-as-saved s after o f comes none some = reopens s after o none some (next-told d sound s f after comes)
