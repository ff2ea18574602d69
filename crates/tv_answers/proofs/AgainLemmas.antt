-- The ends of a run come again, where the description that is filled with its answers is run with a dialog open.
use Rattle.std.proofs.Common.{◌≡◌, ℕ, zero, suc, ◌&&◌, true, List, [], ◌∷◌, length, map, position, replicate, Option, Some, None, is_some, unwrap_or, refl, sym, ap, subst, ◌∙◌, All}
use Rattle.std.specs.Prelude.{is_none, slice_get, if◌then◌else◌}
use Rattle.tv_event.specs.declared.event.Command.{Command}
use Rattle.tv_faults.proofs.SoundDialogLemmas.{sound_dialogs}
use Rattle.tv_faults.proofs.SoundLemmas.{sound_says}
use Rattle.tv_faults.specs.Sound.Names.{HaveOtherNames}
use Rattle.tv_lang.specs.CanonicalDescription.{CanBeSpelled}
use Rattle.tv_laws.proofs.OpenLemmas.{opened-open}
use Rattle.tv_laws.proofs.RunLemmas.{runs-fit, start-fit}
use Rattle.tv_laws.proofs.WorkLemmas.{filter_none, nothing}
use Rattle.tv_laws.specs.Records.{end_lines}
use Rattle.tv_laws.specs.Runs.{IsFitState}
use Rattle.tv_laws.specs.Runs.IsNext.{by_event}
use Rattle.tv_machine.specs.declared.script.Item.{Item}
use Rattle.tv_machine.specs.declared.script.Item.TheVariants as items
use Rattle.tv_machine.specs.Dialog.Ending.{command, ended, field_line, fields_of}
use Rattle.tv_machine.specs.Dialog.Modal.{Modal}
use Rattle.tv_machine.specs.Dialog.Opening.{opened_dialog, opened_leaves}
use Rattle.tv_machine.specs.Dialog.Rules.{is_command_enabled}
use Rattle.tv_machine.specs.Dialog.Sound.{IsSoundDialog}
use Rattle.tv_machine.specs.Output.{after, output, session_after, states}
use Rattle.tv_machine.specs.Run.{quiet, started}
use Rattle.tv_machine.specs.Safe.{IsSafeRecord, IsSafeSaved}
use Rattle.tv_machine.specs.Session.Commands.{after_work, do_command, modal_of, open_found, opened_at, works}
use Rattle.tv_machine.specs.Session.Enabled.{enabled_by}
use Rattle.tv_machine.specs.Session.Menu.{close_menu}
use Rattle.tv_machine.specs.Session.Start.{closed, start, started_at, started_by}
use Rattle.tv_machine.specs.Session.Step.{give_command, step, takes_command, with_empty_log}
use Rattle.tv_machine.specs.State.{OpenDialog, State}
use Rattle.tv_model.specs.declared.desc.Desc.{Desc}
use Rattle.tv_model.specs.declared.desc.Dialog.{Dialog}
use Rattle.tv_model.specs.declared.log.LogLine.{LogLine}
use Rattle.tv_model.specs.declared.log.LogLine.TheVariants as lines
use Rattle.tv_model.specs.declared.node.Id.{Id}
use Rattle.tv_model.specs.Description.Certificates.{dialog_name}
use Rattle.tv_model.specs.Description.Heads.{is_named}
use Rattle.tv_model.specs.Description.Rectangles.{corner_of}
use Rattle.tv_model.specs.Faults.{IsSound}
use Rattle.tv_model.specs.Log.LogText.{log_text}
use Rattle.tv_model.specs.Log.Record.{Entries}
use Rattle.tv_words.specs.Fields.{IsName}
use Rattle.tv_answers.specs.declared.answers.Answer.{Answer}
use Rattle.tv_answers.specs.declared.answers.Answers.{Answers}
use Rattle.tv_answers.specs.Again.{EndAgain, EndsSo, given_end}
use Rattle.tv_answers.specs.Filling.{filled, filled_dialogs, with_values_of}
use Rattle.tv_answers.specs.Laws.{TypesCharacters, answers_of_run, dialogs_saved, last_end, logged}
use Rattle.tv_answers.proofs.DialogsSavedLemmas.{answer_of}
use Rattle.tv_answers.proofs.EndedLemmas.{IsEndKept, IsEndedAs, ends_kept, none_saved}
use Rattle.tv_answers.proofs.EndReadLemmas.{all_at, own_name, own_logged}
use Rattle.tv_answers.proofs.LaterDialogLemmas.{enabled, ends, fields}
use Rattle.tv_answers.proofs.LaterLogLemmas.{end_logged}
use Rattle.tv_answers.proofs.LogNameLemmas.{pairs_right, place_found}
use Rattle.tv_answers.proofs.NumberedLemmas.{begun_desc, begun_only, dialog_later, is_begun, later, lines_later}
use Rattle.tv_answers.proofs.OpeningLemmas.{IsFilledAt, filled_at}
use Rattle.tv_answers.proofs.RunReadLemmas.{dialogs}
use Rattle.tv_answers.proofs.SpelledLemmas.{spelled_filled}
use Rattle.tv_answers.proofs.TypedRunLemmas.{log_is_read}
use Rattle.tv_answers.proofs.ValueLemmas.{answers_spelled}

-- ---- lists

get_mapped : {A B : Type 0} (f : A → B) (xs : List A) (place : ℕ) (x : A) → slice_get xs place ≡ Some x → slice_get (map f xs) place ≡ Some (f x)
get_mapped f [] place x there = absurd cc
get_mapped f (y ∷ xs) zero x there = (let same : y ≡ x = cc in ap (λ z. Some (f z)) same)
get_mapped f (y ∷ xs) (suc place) x there = get_mapped f xs place x there

abbrev no_ids : List Id
no_ids = []

none_kept : (n place : ℕ) → unwrap_or (slice_get (replicate n no_ids) place) no_ids ≡ no_ids
none_kept zero place = refl
none_kept (suc n) zero = refl
none_kept (suc n) (suc place) = none_kept n place

-- the answer of a dialog has its last end, and the record that it saved, if it did
record IsAnswerOf (L : List LogLine) (saved : List (Option Entries)) (place : ℕ) (dialog : Dialog) (answer : Answer) : Type 0 where
  kept : Option Entries
  at : slice_get saved place ≡ Some kept
  is : answer ≡ answer_of L dialog (unwrap_or kept [])

answer_there : (L : List LogLine) (ds : List Dialog) (saved : List (Option Entries)) (place : ℕ) (dialog : Dialog) (answer : Answer) → slice_get ds place ≡ Some dialog
    → slice_get (dialogs_saved L ds saved) place ≡ Some answer → IsAnswerOf L saved place dialog answer
answer_there L [] saved place dialog answer there given = absurd cc
answer_there L (d ∷ ds) [] place dialog answer there given = absurd cc
answer_there L (d ∷ ds) (o ∷ saved) zero dialog answer there given =
    let own : d ≡ dialog = cc in
    let first : answer_of L d (unwrap_or o []) ≡ answer = cc in
    record { kept = o; at = refl; is = sym first ∙ ap (λ (x : Dialog). answer_of L x (unwrap_or o [])) own }
answer_there L (d ∷ ds) (o ∷ saved) (suc place) dialog answer there given =
    let x = answer_there L ds saved place dialog answer there given in
    record { kept = x.kept; at = x.at; is = x.is }

-- nothing holds the mouse as a dialog opens
opened_free : (x : Dialog) → IsSoundDialog x → (opened_dialog x None []).held ≡ None
opened_free x sound = (opened-open x sound None [] (λ entries e. absurd (nothing entries e)) (sym (filter_none (map (λ view. view.id) x.views)))).1

-- ---- a dialog that is open at the start and is given its end

module _ (e : Desc) (name : List ℕ) (starts : e.start ≡ Some name) (place : ℕ) (x : Dialog) (at : position (is_named name) e.dialogs ≡ Some place) (there : slice_get e.dialogs place ≡ Some x) where
  abbrev m : Modal
  m = opened_dialog x None []

  abbrev opened : State
  opened = opened_at (closed e) place x m

  start_is : start e ≡ opened
  start_is =
      ap (λ o. started_by e o) starts ∙ ap (started_at e) at ∙ ap (open_found (closed e) place) there
      ∙ ap (λ saved. opened_at (closed e) place x (opened_dialog x saved (unwrap_or (slice_get (closed e).overwriting place) []))) (none_saved (length e.dialogs) place)
      ∙ ap (λ overwriting. opened_at (closed e) place x (opened_dialog x None overwriting)) (none_kept (length e.dialogs) place)

  abbrev s : State
  s = with_empty_log opened

  abbrev o : OpenDialog
  o = record { place = place; origin = corner_of x.node; sheet = None; leaves = m.leaves; focus = m.focus; held = m.held }

  abbrev works_on : Modal
  works_on = modal_of (close_menu s) o

  module _ (number : ℕ) (free : m.held ≡ None) (allowed : is_command_enabled x m.leaves number ≡ true) (is : command x number works_on ≡ ended x number works_on) where
    taken : takes_command e s number ≡ true
    taken =
        ap (λ b. is_none (if b then Some o else None) && enabled_by m.leaves number (slice_get e.dialogs place)) (ap is_some free)
        ∙ ap (enabled_by m.leaves number) there ∙ allowed

    abbrev after_end : State
    after_end = after_work (close_menu s) o (ended x number works_on) (Some number)

    ends_so : give_command e s number ≡ after_end
    ends_so =
        ap (λ b. if b then do_command e number (close_menu s) else s) taken
        ∙ ap (works (close_menu s) o (λ dialog n. command dialog number n)) there
        ∙ ap (λ n. after_work (close_menu s) o n n.ended) is

    given_so : (given_end e (record { 0 = number })).state ≡ after_end
    given_so = ap (λ (t : State). give_command e (with_empty_log t) number) start_is ∙ ends_so

    pub closes : (given_end e (record { 0 = number })).state.dialog ≡ None
    closes = ap (λ (t : State). t.dialog) given_so

    pub writes : (given_end e (record { 0 = number })).state.log ≡ lines.End x.node.id (record { 0 = number }) ∷ map field_line (fields_of m.leaves)
    writes = ap (λ (t : State). t.log) given_so

-- ---- what a run saved

module _ (d : Desc) (can : CanBeSpelled d) (sound : IsSound d) where
  abbrev HasSaved : List (Option Entries) → Type 0
  HasSaved saved = (place : ℕ) (es : Entries) → slice_get saved place ≡ Some (Some es) → IsSafeSaved d place es

  run_saved : (script : List Item) (s : State) → IsFitState d s → HasSaved (states session_after (quiet (record { desc = d; state = s })) script).state.saved
  run_saved [] s f = f.kept.saved
  run_saved (items.Event e ∷ script) s f = run_saved script (step d s e) (runs-fit d (dialogs d can sound) s (step d s e) f (by_event e refl))
  run_saved (items.Shot ∷ script) s f = run_saved script s f
  run_saved (items.Colors ∷ script) s f = run_saved script s f

  module _ (script : List Item) (has : TypesCharacters script) (place : ℕ) (dialog : Dialog) (there : slice_get d.dialogs place ≡ Some dialog) where
    abbrev a : Answers
    a = answers_of_run d script

    abbrev saved : List (Option Entries)
    saved = (after (started d) script).state.saved

    abbrev name : List ℕ
    name = dialog_name dialog

    abbrev k : ℕ
    k = lines_later d.start

    own : IsSoundDialog dialog
    own = all_at IsSoundDialog d.dialogs place dialog (dialogs d can sound) there

    is_name : IsName name
    is_name = subst IsName (own_logged d can sound place dialog there) (own_name d can sound place dialog there)

    can_filled : CanBeSpelled (filled d a)
    can_filled = spelled_filled d a (answers_spelled d (output (started d) script) a (log_is_read d can sound script has)) can

    abbrev e : Desc
    e = begun_desc (filled d a) name

    -- a record that it saved, and a sound description that begins with it
    module _ (es : Entries) (kept : IsEndedAs (logged d script) dialog es) (is_saved : slice_get saved place ≡ Some (Some es)) (given : slice_get a.dialogs place ≡ Some (answer_of (logged d script) dialog es)) (sound_e : IsSound e) where
      safe : IsSafeRecord dialog es
      safe =
          let y = run_saved script (start d) (start-fit d (dialogs d can sound)) place es is_saved in
          let both : Some y.dialog ≡ Some dialog = sym y.there ∙ there in
          let same : y.dialog ≡ dialog = cc in
          subst (λ (own : Dialog). IsSafeRecord own es) same y.record_of

      began : IsFilledAt d a place dialog
      began = filled_at d (output (started d) script) can a place dialog (log_is_read d can sound script has) there

      entries_are : began.answer.entries ≡ es
      entries_are =
          let both : Some began.answer ≡ Some (answer_of (logged d script) dialog es) = sym began.answered ∙ given in
          let same : began.answer ≡ answer_of (logged d script) dialog es = cc in
          ap (λ (given : Answer). given.entries) same

      filled_there : slice_get (filled_dialogs d.dialogs a.dialogs) place ≡ Some (with_values_of es dialog)
      filled_there = began.there ∙ ap (λ entries. Some (with_values_of entries dialog)) entries_are

      opens_so : opened_leaves (with_values_of es dialog) None ≡ opened_leaves dialog (Some es)
      opens_so = subst (λ entries. opened_leaves (with_values_of entries dialog) None ≡ opened_leaves dialog (Some entries)) entries_are began.leaves

      abbrev x : Dialog
      x = dialog_later k (with_values_of es dialog)

      there_e : slice_get e.dialogs place ≡ Some x
      there_e = get_mapped (dialog_later k) (filled_dialogs d.dialogs a.dialogs) place (with_values_of es dialog) filled_there

      sound_x : IsSoundDialog x
      sound_x = all_at IsSoundDialog e.dialogs place x (sound_dialogs e (is_begun (filled d a) can_filled name is_name) sound_e) there_e

      at_e : position (is_named name) e.dialogs ≡ Some place
      at_e = place_found e.dialogs place x (pairs_right HaveOtherNames (map (λ window. window.node) e.windows) (map (λ dialog. dialog.node) e.dialogs) (sound_says e sound_e).names.frames) there_e

      abbrev number : ℕ
      number = kept.command.0

      free_x : (opened_dialog x None []).held ≡ None
      free_x = opened_free x sound_x

      allowed_x : is_command_enabled x (opened_dialog x None []).leaves number ≡ true
      allowed_x = enabled dialog own es safe k sound_x opens_so number kept.enabled

      ends_x : command x number (works_on e name refl place x at_e there_e) ≡ ended x number (works_on e name refl place x at_e there_e)
      ends_x = ends dialog own es safe k sound_x opens_so (works_on e name refl place x at_e there_e) refl number kept.saves kept.declared

      ends_e : EndsSo e kept.command (log_text d (end_lines dialog number es))
      ends_e = record {
        closed = closes e name refl place x at_e there_e number free_x allowed_x ends_x;
        written = ap (log_text e) (writes e name refl place x at_e there_e number free_x allowed_x ends_x)
            ∙ ap (λ entries. log_text e (lines.End (later k dialog.node.id) kept.command ∷ map field_line entries)) (fields dialog own es safe k sound_x opens_so)
            ∙ end_logged d a name dialog.node.id kept.command es;
      }

    by_kept : (command : Command) (o : Option Entries) → slice_get saved place ≡ Some o → slice_get a.dialogs place ≡ Some (answer_of (logged d script) dialog (unwrap_or o [])) → last_end dialog.node.id (logged d script) ≡ Some command
        → IsEndKept (logged d script) dialog o → IsSound e → EndsSo e command (log_text d (end_lines dialog command.0 (unwrap_or o [])))
    by_kept command None is given last kept sound_e = absurd (nothing command (sym kept ∙ last))
    by_kept command (Some es) is given last kept sound_e =
        let both : Some kept.command ≡ Some command = sym kept.last ∙ last in
        let same : kept.command ≡ command = cc in
        subst (λ (c : Command). EndsSo e c (log_text d (end_lines dialog c.0 es))) same (ends_e es kept is given sound_e)

    by_answer : (answer : Answer) (command : Command) → slice_get a.dialogs place ≡ Some answer → answer.command ≡ Some command → IsSound e → EndsSo e command (log_text d (end_lines dialog command.0 answer.entries))
    by_answer answer command given is sound_e =
        let x = answer_there (logged d script) d.dialogs saved place dialog answer there given in
        let kept = subst (λ (o : Option (Option Entries)). IsEndKept (logged d script) dialog (unwrap_or o None)) x.at (ends_kept d can sound script place dialog there) in
        subst (λ entries. EndsSo e command (log_text d (end_lines dialog command.0 entries))) (sym (ap (λ (y : Answer). y.entries) x.is))
        (by_kept command x.kept x.at (given ∙ ap (λ (y : Answer). Some y) x.is) (sym (ap (λ (y : Answer). y.command) x.is) ∙ is) kept sound_e)

  pub end_again : EndAgain d
  end_again script place dialog answer command other has there given is spells sound_other =
      let a = answers_of_run d script in
      let name = dialog_name dialog in
      let same : other ≡ begun_desc (filled d a) name = begun_only (filled d a) (can_filled script has place dialog there) name (is_name script has place dialog there) other spells.lines in
      subst (λ (y : Desc). EndsSo y command (log_text d (end_lines dialog command.0 answer.entries))) (sym same)
      (by_answer script has place dialog there answer command given is (subst IsSound same sound_other))
