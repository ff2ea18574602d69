-- Each record that a run has saved is that of the last end of its dialog, by a command that the record enables.
use Rattle.std.proofs.Common.{◌≡◌, ◌≢◌, ◌⊎◌, inl, inr, ℕ, zero, suc, ◌==◌, ◌&&◌, not, Bool, true, false, List, [], ◌∷◌, ◌++◌, length, map, replicate, Option, Some, None, unwrap_or, refl, sym, ap, subst, ◌∙◌, append_assoc, All}
use Rattle.std.specs.Prelude.{slice_get, slice_set, if◌then◌else◌}
use Rattle.std.specs.Option.{option_or}
use Rattle.std.proofs.lemmas.List.{append-nil}
use Rattle.std.proofs.lemmas.List.Elements.{All-head}
use Rattle.tv_event.specs.declared.event.Command.{Command}
use Rattle.tv_lang.specs.CanonicalDescription.{CanBeSpelled}
use Rattle.tv_laws.proofs.RecordLaws.SavedLemmas.{saves-what-it-logs}
use Rattle.tv_laws.proofs.RunLemmas.{runs-fit, start-fit}
use Rattle.tv_laws.proofs.WorkLemmas.{get_all}
use Rattle.tv_laws.specs.Records.{IsEnd, IsEndless, end_lines}
use Rattle.tv_laws.specs.Runs.{IsFitState}
use Rattle.tv_laws.specs.Runs.IsNext.{by_event}
use Rattle.tv_machine.proofs.LeafLemmas.{ids-apart, state_id}
use Rattle.tv_machine.proofs.ListLemmas.{AreApart, bool_cases, id-itself, id-swap, others-fail}
use Rattle.tv_machine.specs.declared.script.Item.{Item}
use Rattle.tv_machine.specs.declared.script.Item.TheVariants as items
use Rattle.tv_machine.specs.Dialog.Ending.{fields_of}
use Rattle.tv_machine.specs.Dialog.Sound.{IsSoundDialog}
use Rattle.tv_machine.specs.Output.{after, session_after, states}
use Rattle.tv_machine.specs.Run.{Session, quiet, started}
use Rattle.tv_machine.specs.Session.Commands.{saved_at}
use Rattle.tv_machine.specs.Session.Start.{start}
use Rattle.tv_machine.specs.Session.Step.{step}
use Rattle.tv_machine.specs.State.{State}
use Rattle.tv_model.specs.declared.desc.Desc.{Desc}
use Rattle.tv_model.specs.declared.desc.Dialog.{Dialog}
use Rattle.tv_model.specs.declared.log.LogLine.{LogLine}
use Rattle.tv_model.specs.declared.log.LogLine.TheVariants as lines
use Rattle.tv_model.specs.declared.node.Id.{Id}
use Rattle.tv_model.specs.Description.Commands.{is_end}
use Rattle.tv_model.specs.Description.Heads.{dialog_head}
use Rattle.tv_model.specs.Faults.{IsSound}
use Rattle.tv_model.specs.Log.Record.{Entries}
use Rattle.tv_answers.specs.Laws.{last_end, lines_after, logged, saving_end}
use Rattle.tv_answers.proofs.AllowedLemmas.{IsAllowed, IsAllowedLine}
use Rattle.tv_answers.proofs.AllowedStepLemmas.{event_allows}
use Rattle.tv_answers.proofs.DialogsSavedLemmas.{dialog_id, end_ends, last_append, none_ends}
use Rattle.tv_answers.proofs.EnabledLemmas.{enabled_is, is_enabled_as}
use Rattle.tv_answers.proofs.EndReadLemmas.{all_at}
use Rattle.tv_answers.proofs.LogNameLemmas.{all_right}
use Rattle.tv_answers.proofs.RunReadLemmas.{begun_by, dialogs, ids}

-- ---- places

-- dialogs of one list have one place, or other ids
abbrev AreOther : ℕ → ℕ → Dialog → Dialog → Type 0
AreOther i j x y = (i ≡ j) ⊎ ((i ≢ j) × ((x.node.id.0 == y.node.id.0) ≡ false))

next_other : (i j : ℕ) (x y : Dialog) → AreOther i j x y → AreOther (suc i) (suc j) x y
next_other i j x y (inl same) = inl (ap (λ (n : ℕ). suc n) same)
next_other i j x y (inr other) = inr ((λ same. other.0 cc), other.1)

other_places : (ds : List Dialog) → AreApart (map dialog_id ds) → (i j : ℕ) (x y : Dialog) → slice_get ds i ≡ Some x → slice_get ds j ≡ Some y → AreOther i j x y
other_places [] apart i j x y is js = absurd cc
other_places (d ∷ ds) apart zero zero x y is js = inl refl
other_places (d ∷ ds) apart zero (suc j) x y is js =
    let own : d ≡ x = cc in
    inr ((λ same. absurd cc), id-swap x.node.id y.node.id ∙ subst (λ (own : Dialog). (y.node.id.0 == own.node.id.0) ≡ false) own (get_all (λ z. (z.node.id.0 == d.node.id.0) ≡ false) ds j y (others-fail dialog_id ds d.node.id apart.0) js))
other_places (d ∷ ds) apart (suc i) zero x y is js =
    let own : d ≡ y = cc in
    inr ((λ same. absurd cc), subst (λ (own : Dialog). (x.node.id.0 == own.node.id.0) ≡ false) own (get_all (λ z. (z.node.id.0 == d.node.id.0) ≡ false) ds i x (others-fail dialog_id ds d.node.id apart.0) is))
other_places (d ∷ ds) apart (suc i) (suc j) x y is js = next_other i j x y (other_places ds apart.1 i j x y is js)

get_other : {A : Type 0} (xs : List A) (i j : ℕ) (v : A) → i ≢ j → slice_get (slice_set xs i v) j ≡ slice_get xs j
get_other [] i j v other = refl
get_other (x ∷ xs) zero zero v other = absurd (other refl)
get_other (x ∷ xs) zero (suc j) v other = refl
get_other (x ∷ xs) (suc i) zero v other = refl
get_other (x ∷ xs) (suc i) (suc j) v other = get_other xs i j v (λ same. other (ap (λ (n : ℕ). suc n) same))

abbrev pub unsaved : Option Entries
unsaved = None

pub none_saved : (n place : ℕ) → unwrap_or (slice_get (replicate n unsaved) place) unsaved ≡ unsaved
none_saved zero place = refl
none_saved (suc n) zero = refl
none_saved (suc n) (suc place) = none_saved n place

-- ---- what a dialog saved

-- the last end of the dialog was by a command that it declares, not by `cancel`, and that the record enables
pub record IsEndedAs (log : List LogLine) (dialog : Dialog) (es : Entries) : Type 0 where
  pub command : Command
  pub last : last_end dialog.node.id log ≡ Some command
  pub declared : is_end (dialog_head dialog).ends command.0 ≡ true
  pub saves : (command.0 == 11) ≡ false
  pub enabled : is_enabled_as dialog.views dialog.rules es command.0 ≡ true

-- so where it saved one, and else it had no such end
abbrev pub IsEndKept : List LogLine → Dialog → Option Entries → Type 0
IsEndKept log dialog None = last_end dialog.node.id log ≡ None
IsEndKept log dialog (Some es) = IsEndedAs log dialog es

kept_as : (L M : List LogLine) (dialog : Dialog) (o : Option Entries) → last_end dialog.node.id L ≡ last_end dialog.node.id M → IsEndKept L dialog o → IsEndKept M dialog o
kept_as L M dialog None same k = sym same ∙ k
kept_as L M dialog (Some es) same k = record { command = k.command; last = sym same ∙ k.last; declared = k.declared; saves = k.saves; enabled = k.enabled }

same_end : (L log : List LogLine) (i : Id) → last_end i log ≡ None → last_end i L ≡ last_end i (L ++ log)
same_end L log i none = sym (last_append i L log ∙ ap (λ o. option_or o (last_end i L)) none)

or_none : (o : Option Command) → option_or o None ≡ o
or_none None = refl
or_none (Some c) = refl

module _ (d : Desc) (can : CanBeSpelled d) (sound : IsSound d) where
  abbrev pub AreEndsKept : List LogLine → State → Type 0
  AreEndsKept L s = (place : ℕ) (dialog : Dialog) → slice_get d.dialogs place ≡ Some dialog → IsEndKept L dialog (saved_at s place)

  -- lines without an end that saves
  endless_kept : (L log : List LogLine) (s after : State) → ((i : Id) → last_end i log ≡ None) → after.saved ≡ s.saved → AreEndsKept L s → AreEndsKept (L ++ log) after
  endless_kept L log s after none same k place dialog there =
      kept_as L (L ++ log) dialog (saved_at after place) (same_end L log dialog.node.id (none dialog.node.id))
      (subst (λ (saved : List (Option Entries)). IsEndKept L dialog (unwrap_or (slice_get saved place) None)) (sym same) (k place dialog there))

  module _ (L : List LogLine) (s after : State) (f : IsFitState d s) (x : IsEnd d s after) (allowed : All (IsAllowedLine x.dialog x.«open».leaves) after.log) (k : AreEndsKept L s) where
    abbrev es : Entries
    es = fields_of x.«open».leaves

    abbrev last : List LogLine
    last = end_lines x.dialog x.number es

    abbrev given : Command
    given = record { 0 = x.number }

    ends_by : (i : Id) → last_end i after.log ≡ saving_end i (lines.End x.dialog.node.id given)
    ends_by i =
        ap (last_end i) x.logged.written ∙ last_append i x.logged.before last
        ∙ ap (option_or (last_end i last)) (none_ends i x.logged.before x.logged.endless) ∙ or_none (last_end i last) ∙ end_ends i x.dialog.node.id x.number es

    is_allowed : IsAllowed x.dialog x.«open».leaves x.number
    is_allowed =
        let all = subst (All (IsAllowedLine x.dialog x.«open».leaves)) x.logged.written allowed in
        All-head (IsAllowedLine x.dialog x.«open».leaves) (lines.End x.dialog.node.id given) _ (all_right (IsAllowedLine x.dialog x.«open».leaves) x.logged.before last all)

    leaves_apart : AreApart (map state_id x.«open».leaves)
    leaves_apart =
        let o = f.«open» x.«open» x.was in
        let both : Some o.dialog ≡ Some x.dialog = sym o.there ∙ x.there in
        let same : o.dialog ≡ x.dialog = cc in
        let own : IsSoundDialog o.dialog = all_at IsSoundDialog d.dialogs x.«open».place o.dialog (dialogs d can sound) o.there in
        subst AreApart (sym o.fit.standing.leaves) (ids-apart o.dialog own.lawful)

    cancel_kept : (x.number == 11) ≡ true → AreEndsKept (L ++ after.log) after
    cancel_kept cancels =
        endless_kept L after.log s after
        (λ i. ends_by i ∙ ap (λ b. if (x.dialog.node.id.0 == i.0) && not b then Some given else None) cancels ∙ none (x.dialog.node.id.0 == i.0)) (x.cancelled cancels) k
      where
        none : (b : Bool) → (if b && false then Some given else None) ≡ None
        none true = refl
        none false = refl

    own_kept : (x.number == 11) ≡ false → IsEndedAs (L ++ after.log) x.dialog es
    own_kept saves = record {
      command = given;
      last = last_append x.dialog.node.id L after.log
          ∙ ap (λ o. option_or o (last_end x.dialog.node.id L))
          (ends_by x.dialog.node.id ∙ ap (λ b. if b && not (x.number == 11) then Some given else None) (id-itself x.dialog.node.id) ∙ ap (λ b. if not b then Some given else None) saves);
      declared = x.declared;
      saves = saves;
      enabled = sym (enabled_is x.dialog x.«open».leaves x.number leaves_apart) ∙ is_allowed saves;
    }

    saved_kept : (x.number == 11) ≡ false → AreEndsKept (L ++ after.log) after
    saved_kept saves place dialog there = by_place (other_places d.dialogs (ids d can sound) x.«open».place place x.dialog dialog x.there there)
      where
        saved : after.saved ≡ slice_set s.saved x.«open».place (Some es)
        saved = (x.saved saves).set

        by_place : AreOther x.«open».place place x.dialog dialog → IsEndKept (L ++ after.log) dialog (saved_at after place)
        by_place (inl same) =
            let here : slice_get d.dialogs place ≡ Some x.dialog = subst (λ (n : ℕ). slice_get d.dialogs n ≡ Some x.dialog) same x.there in
            let both : Some x.dialog ≡ Some dialog = sym here ∙ there in
            let own : x.dialog ≡ dialog = cc in
            subst (λ (n : ℕ). IsEndKept (L ++ after.log) dialog (saved_at after n)) same
            (subst (IsEndKept (L ++ after.log) dialog) (sym (x.saved saves).there) (subst (λ (y : Dialog). IsEndedAs (L ++ after.log) y es) own (own_kept saves)))
        by_place (inr other) =
            kept_as L (L ++ after.log) dialog (saved_at after place)
            (same_end L after.log dialog.node.id (ends_by dialog.node.id ∙ ap (λ b. if b && not (x.number == 11) then Some given else None) other.1))
            (subst (λ (o : Option (Option Entries)). IsEndKept L dialog (unwrap_or o None)) (sym (ap (λ (xs : List (Option Entries)). slice_get xs place) saved ∙ get_other s.saved x.«open».place place (Some es) other.0)) (k place dialog there))

    end_kept : AreEndsKept (L ++ after.log) after
    end_kept = bool_cases (x.number == 11) (λ b. (x.number == 11) ≡ b → AreEndsKept (L ++ after.log) after) (λ t is. cancel_kept is) (λ n is. saved_kept is) refl

  event_kept : (L : List LogLine) (s : State) (f : IsFitState d s) → AreEndsKept L s → (after : State) → ((x : IsEnd d s after) → All (IsAllowedLine x.dialog x.«open».leaves) after.log)
      → IsEndless s after ⊎ IsEnd d s after → AreEndsKept (L ++ after.log) after
  event_kept L s f k after allowed (inl x) = endless_kept L after.log s after (λ i. none_ends i after.log x.log) x.saved k
  event_kept L s f k after allowed (inr x) = end_kept L s after f x (allowed x) k

  abbrev session : State → Session
  session s = record { desc = d; state = s }

  run_kept : (script : List Item) (L : List LogLine) (s : State) → IsFitState d s → AreEndsKept L s → AreEndsKept (L ++ lines_after d s script) (states session_after (quiet (session s)) script).state
  run_kept [] L s f k = subst (λ log. AreEndsKept log s) (sym (append-nil L)) k
  run_kept (items.Event e ∷ script) L s f k =
      let after = step d s e in
      let next = event_kept L s f k after (λ x. event_allows d s f x.«open» x.was x.dialog x.there e) (saves-what-it-logs d (dialogs d can sound) s after f (by_event e refl)) in
      subst (λ log. AreEndsKept log (states session_after (quiet (session after)) script).state) (append_assoc L after.log (lines_after d after script))
      (run_kept script (L ++ after.log) after (runs-fit d (dialogs d can sound) s after f (by_event e refl)) next)
  run_kept (items.Shot ∷ script) L s f k = run_kept script L s f k
  run_kept (items.Colors ∷ script) L s f k = run_kept script L s f k

  start_kept : AreEndsKept (start d).log (start d)
  start_kept place dialog there =
      let b = begun_by d can sound d.start in
      subst (IsEndKept (start d).log dialog) (sym (ap (λ (saved : List (Option Entries)). unwrap_or (slice_get saved place) None) b.1 ∙ none_saved (length d.dialogs) place))
      (none_ends dialog.node.id (start d).log b.0)

  -- so of a whole run
  pub ends_kept : (script : List Item) → AreEndsKept (logged d script) (after (started d) script).state
  ends_kept script = run_kept script (start d).log (start d) (start-fit d (dialogs d can sound)) start_kept
