-- What a run logs is read as what it saved.
use Rattle.std.proofs.Common.{◌≡◌, ◌⊎◌, inl, inr, ℕ, ◌<◌, ◌==◌, ◌&&◌, not, Bool, true, false, List, [], ◌∷◌, ◌++◌, filter_map, get_or, length, map, position, replicate, Option, Some, None, option_map, unwrap_or, refl, sym, ap, subst, ◌∙◌, append_assoc, All, AllPairs, arith}
use Rattle.std.specs.List.{cons_option}
use Rattle.std.specs.Prelude.{slice_get, if◌then◌else◌}
use Rattle.std.specs.Prelude.{ℤ, pos, ◌≤ℤ◌}
use Rattle.std.specs.Option.{option_or}
use Rattle.std.proofs.lemmas.Bool.{false_from_ne_true}
use Rattle.std.proofs.lemmas.Int.{ints}
use Rattle.std.proofs.lemmas.List.{append-nil}
use Rattle.std.proofs.lemmas.List.Elements.{All-cons, All-head, All-nil, All-tail}
use Rattle.std.proofs.lemmas.Option.{slice_get-get_or}
use Rattle.tv_event.specs.declared.event.Command.{Command}
use Rattle.tv_event.specs.declared.event.Event.{Event}
use Rattle.tv_faults.proofs.PairLemmas.{pairs_head, pairs_tail}
use Rattle.tv_faults.proofs.SoundDialogLemmas.{sound_dialogs}
use Rattle.tv_faults.proofs.SoundLemmas.{sound_says}
use Rattle.tv_faults.specs.Sound.Names.{HasName, HaveOtherNames}
use Rattle.tv_lang.specs.CanonicalDescription.{CanBeSpelled}
use Rattle.tv_laws.proofs.RecordLemmas.{fields-are}
use Rattle.tv_laws.proofs.RecordLaws.IdleLemmas.{opens-beside}
use Rattle.tv_laws.proofs.RecordLaws.SavedLemmas.{saves-what-it-logs}
use Rattle.tv_laws.specs.Sheets.{HasNoSheets}
use Rattle.tv_laws.proofs.SheetLemmas.{runs-bare, starts-bare}
use Rattle.tv_laws.proofs.RunLemmas.{closed_kept, runs-fit, start-fit}
use Rattle.tv_laws.specs.Fit.{IsFitLeaf, IsStanding}
use Rattle.tv_laws.specs.Records.{IsEnd, IsEndless, IsNoEnd, end_lines}
use Rattle.tv_laws.specs.Runs.{HasSoundDialogs, IsFitState}
use Rattle.tv_laws.specs.Runs.IsNext.{by_event}
use Rattle.tv_machine.proofs.EntryLemmas.{entry_at, entry_with}
use Rattle.tv_machine.proofs.LeafLemmas.{leaves-all}
use Rattle.tv_machine.proofs.ListLemmas.{AreApart, bool_cases, fails-absent, find-member, id-itself, id-swap, option_cases, same-id}
use Rattle.tv_machine.specs.declared.script.Item.{Item}
use Rattle.tv_machine.specs.declared.script.Item.TheVariants as items
use Rattle.tv_machine.specs.Dialog.Ending.{field_line, fields_of}
use Rattle.tv_machine.specs.Dialog.Modal.{Modal, content_at}
use Rattle.tv_machine.specs.Dialog.Sound.{IsSoundDialog}
use Rattle.tv_machine.specs.Leaves.{PlacedNode, leaf_list}
use Rattle.tv_machine.specs.Output.{output, colors_text, item_text, session_after, shot_text, states, texts}
use Rattle.tv_machine.specs.Run.{Session, quiet, started}
use Rattle.tv_machine.specs.Safe.{HasValueOf, field_ids}
use Rattle.tv_machine.specs.Session.Commands.{modal_of}
use Rattle.tv_machine.specs.Session.Start.{closed, start, started_at, started_by}
use Rattle.tv_machine.specs.Session.Step.{step, with_empty_log}
use Rattle.tv_machine.specs.State.{State}
use Rattle.tv_model.specs.declared.desc.Desc.{Desc}
use Rattle.tv_model.specs.declared.desc.Dialog.{Dialog}
use Rattle.tv_model.specs.declared.log.LogLine.{LogLine}
use Rattle.tv_model.specs.declared.log.LogLine.TheVariants as lines
use Rattle.tv_model.specs.declared.node.Id.{Id}
use Rattle.tv_model.specs.declared.node.Node.{Node}
use Rattle.tv_model.specs.declared.record.Value.{Value}
use Rattle.tv_model.specs.Description.Heads.{all_nodes, dialog_head, is_named}
use Rattle.tv_model.specs.Description.Nodes.{node_of}
use Rattle.tv_model.specs.Faults.{IsSound}
use Rattle.tv_model.specs.Log.LogText.{log_text}
use Rattle.tv_model.specs.Log.Record.{Entries}
use Rattle.tv_model.specs.Description.Numbers.{natural}
use Rattle.tv_words.specs.Fields.{IsNumber}
use Rattle.tv_words.specs.Lines.{lines_of}
use Rattle.tv_answers.specs.declared.answers.Answer.{Answer}
use Rattle.tv_answers.specs.declared.answers.Answers.{Answers}
use Rattle.tv_answers.specs.declared.progress.Progress.{Progress}
use Rattle.tv_answers.specs.declared.progress.Block.TheVariants.{Saved}
use Rattle.tv_answers.specs.Laws.{HasCharacters, answers_of_run, dialogs_saved, last_end, lines_after, logged, saving_end}
use Rattle.tv_answers.specs.ReadLogs.{answers_in, answers_of, changed_at, no_answer, nothing_read, passed, with_command}
use Rattle.tv_answers.proofs.DialogsSavedLemmas.{answer_of, dialog_id, end_ends, last_append, none_ends, old_at, put_again, saved_changed, saved_same}
use Rattle.tv_answers.proofs.EndReadLemmas.{IsTypedEntry, after_end, all_at, end_lines_read, end_text_is, found, ids_apart}
use Rattle.tv_answers.proofs.LogNameLemmas.{all_left, all_right, all_unmap, head_named, pairs_right, pairs_unmap}
use Rattle.tv_answers.proofs.LogReadLemmas.{end_words, field_words}
use Rattle.tv_answers.proofs.NamesLemmas.{names_of}
use Rattle.tv_answers.proofs.OpeningLemmas.{apart, view_id}
use Rattle.tv_answers.proofs.PutLemmas.{changed_twice, entered, entered_at, entry_id, put_all, put_first, with_all}
use Rattle.tv_answers.proofs.TextReadLemmas.{TextIsRead, colors_read, log_text_read, natural_number, shot_read, text_append, text_nothing}
use Rattle.tv_answers.proofs.ToldLemmas.{IsClean, IsNamed, IsTold, told_before}
use Rattle.tv_answers.proofs.ToldReadLemmas.{IsRead, read_append, told_read}
use Rattle.tv_answers.proofs.ToldSessionLemmas.{HasNames, start_good, step_good}

-- the texts of fields are of characters
abbrev pub AreCharacters : LogLine → Type 0
AreCharacters (lines.Field i value) = HasCharacters value
AreCharacters _ = Unit {0}

-- ---- the fields of an open dialog

module _ (dialog : Dialog) (sound : IsSoundDialog dialog) (m : Modal) (standing : IsStanding dialog m) where
  views_found : All (λ view. node_of dialog.views view.id ≡ Some view) dialog.views
  views_found = find-member view_id dialog.views (apart dialog.views (pairs_tail (λ node later. node.id.0 < later.id.0) dialog.node dialog.views sound.lawful.rising))

  one_typed : (leaf : PlacedNode) (v : Option Value) (entries : Entries) → node_of dialog.views leaf.node.id ≡ Some leaf.node → HasValueOf leaf.node.kind v → All (IsTypedEntry dialog) entries
      → All (IsTypedEntry dialog) (cons_option (option_map (entry_with leaf.node.id) v) entries)
  one_typed leaf None entries there has all = all
  one_typed leaf (Some v) entries there has all = All-cons (IsTypedEntry dialog) (entry_with leaf.node.id v) entries (record { node = leaf.node; there = there; value = has }) all

  all_typed : (leaves : List PlacedNode) → All (IsFitLeaf m) leaves → All (λ leaf. node_of dialog.views leaf.node.id ≡ Some leaf.node) leaves → All (IsTypedEntry dialog) (filter_map (entry_at m) leaves)
  all_typed [] fit there = All-nil (IsTypedEntry dialog)
  all_typed (leaf ∷ leaves) fit there =
      one_typed leaf (content_at m leaf.node.id).value (filter_map (entry_at m) leaves) (All-head (λ (x : PlacedNode). node_of dialog.views x.node.id ≡ Some x.node) leaf leaves there) (All-head (IsFitLeaf m) leaf leaves fit).safe.value
      (all_typed leaves (All-tail (IsFitLeaf m) leaf leaves fit) (All-tail (λ (x : PlacedNode). node_of dialog.views x.node.id ≡ Some x.node) leaf leaves there))

  fields_typed : All (IsTypedEntry dialog) (fields_of m.leaves)
  fields_typed =
      subst (All (IsTypedEntry dialog)) (fields-are dialog sound m standing.leaves)
      (all_typed (leaf_list dialog.views) standing.contents (leaves-all (λ view. node_of dialog.views view.id ≡ Some view) [] dialog.views views_found))

-- ---- dialogs have ids of their own

apart_ids : (ds : List Dialog) → AllPairs (λ x y. (y.node.id.0 == x.node.id.0) ≡ false) ds → AreApart (map dialog_id ds)
apart_ids [] pairs = tt
apart_ids (x ∷ ds) pairs =
    (fails-absent dialog_id ds x.node.id (pairs_head (λ (a b : Dialog). (b.node.id.0 == a.node.id.0) ≡ false) x ds pairs), apart_ids ds (pairs_tail (λ (a b : Dialog). (b.node.id.0 == a.node.id.0) ≡ false) x ds pairs))

-- ---- nothing is saved

unsaved : (ds : List Dialog) → map (λ dialog. no_answer) ds ≡ dialogs_saved [] ds (replicate (length ds) None)
unsaved [] = refl
unsaved (d ∷ ds) = ap (λ rest. no_answer ∷ rest) (unsaved ds)

module _ (d : Desc) (can : CanBeSpelled d) (sound : IsSound d) where
  pub dialogs : HasSoundDialogs d
  dialogs = sound_dialogs d can.1.can sound

  pub names : HasNames d
  names = names_of d can sound

  other_ids : AllPairs (λ x y. (y.node.id.0 == x.node.id.0) ≡ false) d.dialogs
  other_ids i j e less within =
      let x : Dialog = get_or d.dialogs i e in
      let y : Dialog = get_or d.dialogs j e in
      let before : i < length d.dialogs = omega (arith, less, within) in
      let found_x = All-head (λ node. node_of (all_nodes d) node.id ≡ Some node) x.node x.views (found d can sound i x (slice_get-get_or d.dialogs i e before)) in
      let found_y = All-head (λ node. node_of (all_nodes d) node.id ≡ Some node) y.node y.views (found d can sound j y (slice_get-get_or d.dialogs j e within)) in
      let pairs = pairs_right HaveOtherNames (map (λ window. window.node) d.windows) (map (λ own. own.node) d.dialogs) (sound_says d sound).names.frames in
      let others : HaveOtherNames x.node y.node = pairs_unmap HaveOtherNames (λ (own : Dialog). own.node) d.dialogs pairs i j e less within in
      false_from_ne_true (y.node.id.0 == x.node.id.0)
      (λ same.
      let both : Some x.node ≡ Some y.node = sym found_x ∙ ap (node_of (all_nodes d)) (sym (same-id y.node.id x.node.id same)) ∙ found_y in
      let one : x.node ≡ y.node = cc in
      let named = head_named x.node.kind x.own_kind in
      others (dialog_head x).name named (subst (λ (node : Node). HasName node (dialog_head x).name) one named))

  pub ids : AreApart (map dialog_id d.dialogs)
  ids = apart_ids d.dialogs other_ids

  -- ---- what is answered so far

  -- the answers are what was saved, with the ends that were logged
  abbrev Holds : List LogLine → State → Progress → Type 0
  Holds L s p = p.answers ≡ record { dialogs = dialogs_saved L d.dialogs s.saved; misfits = [] }

  -- lines without an end that saves
  kept_holds : (L log : List LogLine) (s after : State) (p : Progress) → ((i : Id) → last_end i log ≡ None) → after.saved ≡ s.saved → Holds L s p → Holds (L ++ log) after p
  kept_holds L log s after p none same h =
      h
      ∙ ap (λ given. record { dialogs = given; misfits = [] })
      (saved_same L (L ++ log) d.dialogs s.saved (λ k x less. let own : Dialog = get_or d.dialogs k x in sym (last_append own.node.id L log ∙ ap (λ o. option_or o (last_end own.node.id L)) (none own.node.id)))
      ∙ ap (dialogs_saved (L ++ log) d.dialogs) (sym same))

  -- ---- one event

  record IsReached (L log : List LogLine) (p : Progress) (after : State) : Type 0 where
    reached : Progress
    reads : IsRead d p log reached
    holds : Holds (L ++ log) after reached

  endless_read : (L : List LogLine) (p : Progress) (s after : State) → IsClean d after.log → IsEndless s after → Holds L s p → IsReached L after.log p after
  endless_read L p s after clean x h = record {
    reached = p;
    reads = told_read d p after.log (told_before d after.log [] x.log (subst (IsClean d) (sym (append-nil after.log)) clean));
    holds = kept_holds L after.log s after p (λ i. none_ends i after.log x.log) x.saved h;
  }

  module _ (L : List LogLine) (p : Progress) (s after : State) (f : IsFitState d s) (clean : IsClean d after.log) (has : All AreCharacters after.log) (x : IsEnd d s after) (h : Holds L s p) where
    abbrev place : ℕ
    place = x.«open».place

    abbrev es : Entries
    es = fields_of x.«open».leaves

    abbrev last : List LogLine
    last = end_lines x.dialog x.number es

    abbrev before : List LogLine
    before = x.logged.before

    abbrev given : Command
    given = record { 0 = x.number }

    told : All (IsTold d) before
    told = told_before d before last x.logged.endless (subst (IsClean d) x.logged.written clean)

    typed : All (IsTypedEntry x.dialog) es
    typed =
        let o = f.«open» x.«open» x.was in
        let both : Some o.dialog ≡ Some x.dialog = sym o.there ∙ x.there in
        let same : o.dialog ≡ x.dialog = cc in
        let own : IsSoundDialog x.dialog = all_at IsSoundDialog d.dialogs place x.dialog dialogs x.there in
        fields_typed x.dialog own (modal_of s x.«open») (subst (λ (y : Dialog). IsStanding y (modal_of s x.«open»)) same o.fit.standing)

    characters : All (λ e. HasCharacters e.value) es
    characters =
        let all : All AreCharacters (before ++ last) = subst (All AreCharacters) x.logged.written has in
        all_unmap AreCharacters field_line es (All-tail AreCharacters (lines.End x.dialog.node.id given) (map field_line es) (all_right AreCharacters before last all))

    abbrev then_reached : Progress
    then_reached = after_end d can sound place x.dialog x.there x.number es p.answers

    end_is : IsRead d p last then_reached
    end_is = record {
      words = end_words d x.dialog.node.id x.number ∷ map (field_words d) es;
      text = end_text_is d can sound place x.dialog x.there x.number es typed characters;
      lines = λ n. end_lines_read d can sound place x.dialog x.there n p x.number es x.declared typed characters;
    }

    reads_end : IsRead d p after.log then_reached
    reads_end = subst (λ log. IsRead d p log then_reached) (sym x.logged.written) (read_append d p p then_reached before last (told_read d p before told) end_is)

    -- the last end is this one, where it saves something
    ends_by : (i : Id) → last_end i after.log ≡ saving_end i (lines.End x.dialog.node.id given)
    ends_by i =
        ap (last_end i) x.logged.written ∙ last_append i before last
        ∙ ap (option_or (last_end i last)) (none_ends i before x.logged.endless) ∙ or_none (last_end i last) ∙ end_ends i x.dialog.node.id x.number es
      where
        or_none : (o : Option Command) → option_or o None ≡ o
        or_none None = refl
        or_none (Some c) = refl

    cancel_holds : (x.number == 11) ≡ true → Holds (L ++ after.log) after then_reached
    cancel_holds cancels =
        ap (λ b. (if b then passed p.answers else record { answers = entered place es (with_command place given p.answers); block = Saved place }).answers) cancels
        ∙ kept_holds L after.log s after p
        (λ i. ends_by i ∙ ap (λ b. if (x.dialog.node.id.0 == i.0) && not b then Some given else None) cancels ∙ none (x.dialog.node.id.0 == i.0)) (x.cancelled cancels) h
      where
        none : (b : Bool) → (if b && false then Some given else None) ≡ None
        none true = refl
        none false = refl

    -- ---- an end that saves

    abbrev commands : Answer → Answer
    commands answer = record answer { command = Some given }

    abbrev saves : Answer → Answer
    saves answer = with_all es (commands answer)

    abbrev M : List LogLine
    M = L ++ after.log

    own_ids : AreApart (map entry_id es)
    own_ids = ids_apart d can sound place x.dialog x.there es x.fields

    put_old : put_all es (old_at s.saved place) ≡ es
    put_old =
        option_cases (slice_get s.saved place) (λ o. slice_get s.saved place ≡ o → put_all es (unwrap_or (unwrap_or o None) []) ≡ es) (λ none e. put_first es own_ids)
        (λ saved some e. by_saved saved e) refl
      where
        by_saved : (saved : Option Entries) → slice_get s.saved place ≡ Some saved → put_all es (unwrap_or saved []) ≡ es
        by_saved None e = put_first es own_ids
        by_saved (Some prev) e =
            let y = f.kept.saved place prev e in
            let both : Some y.dialog ≡ Some x.dialog = sym y.there ∙ x.there in
            let same : y.dialog ≡ x.dialog = cc in
            put_again es prev (y.record_of.fields ∙ ap field_ids same ∙ sym x.fields) own_ids

    own_end : (x.number == 11) ≡ false → last_end x.dialog.node.id M ≡ Some given
    own_end not_cancel =
        last_append x.dialog.node.id L after.log
        ∙ ap (λ o. option_or o (last_end x.dialog.node.id L))
        (ends_by x.dialog.node.id ∙ ap (λ b. if b && not (x.number == 11) then Some given else None) (id-itself x.dialog.node.id) ∙ ap (λ b. if not b then Some given else None) not_cancel)

    other_end : (i : Id) → (i.0 == x.dialog.node.id.0) ≡ false → last_end i L ≡ last_end i M
    other_end i other =
        sym (last_append i L after.log
        ∙ ap (λ o. option_or o (last_end i L)) (ends_by i ∙ ap (λ b. if b && not (x.number == 11) then Some given else None) (id-swap x.dialog.node.id i ∙ other)))

    new_answer : (x.number == 11) ≡ false → saves (answer_of L x.dialog (old_at s.saved place)) ≡ answer_of M x.dialog es
    new_answer not_cancel =
        ap (λ entries. record { command = Some given; entries = entries }) put_old ∙ ap (λ command. record { command = command; entries = es }) (sym (own_end not_cancel))

    save_holds : (x.number == 11) ≡ false → Holds (L ++ after.log) after then_reached
    save_holds not_cancel =
        ap (λ b. (if b then passed p.answers else record { answers = entered place es (with_command place given p.answers); block = Saved place }).answers) not_cancel
        ∙ entered_at place es (with_command place given p.answers)
        ∙ ap (λ list. record p.answers { dialogs = list }) (changed_twice place (with_all es) commands p.answers.dialogs)
        ∙ ap (λ (a : Answers). record a { dialogs = changed_at place saves a.dialogs }) h
        ∙ ap (λ list. record { dialogs = list; misfits = [] })
        (saved_changed L M saves x.dialog es other_end place d.dialogs s.saved x.there f.kept.records ids (new_answer not_cancel)
        ∙ ap (dialogs_saved M d.dialogs) (sym (x.saved not_cancel).set))

    end_reached : IsReached L after.log p after
    end_reached = record {
      reached = then_reached;
      reads = reads_end;
      holds = bool_cases (x.number == 11) (λ b. (x.number == 11) ≡ b → Holds (L ++ after.log) after then_reached) (λ t is. cancel_holds is) (λ n is. save_holds is) refl;
    }

  told_read_of : (L : List LogLine) (p : Progress) (s after : State) → IsFitState d s → IsClean d after.log → All AreCharacters after.log → Holds L s p → IsEndless s after ⊎ IsEnd d s after → IsReached L after.log p after
  told_read_of L p s after f clean has h (inl x) = endless_read L p s after clean x h
  told_read_of L p s after f clean has h (inr x) = end_reached L p s after f clean has x h

  event_read : (L : List LogLine) (p : Progress) (s : State) (e : Event) → IsFitState d s → All (λ window. IsNamed d window.id) s.windows → All AreCharacters (step d s e).log → Holds L s p
      → IsReached L (step d s e).log p (step d s e)
  event_read L p s e f windows has h =
      told_read_of L p s (step d s e) f (step_good d names s e f windows).0 has h (saves-what-it-logs d dialogs s (step d s e) f (by_event e refl))

  -- ---- a script

  abbrev session : State → Session
  session s = record { desc = d; state = s }

  record IsScripted (L log : List LogLine) (text : List ℕ) (p : Progress) (after : State) : Type 0 where
    reached : Progress
    reads : TextIsRead d p text reached
    holds : Holds (L ++ log) after reached

  width : IsNumber (pos (natural d.width))
  width = natural_number d.width (pos 20) names.width

  height : IsNumber (pos (natural d.height))
  height = natural_number d.height (pos 10) (names.height.0, least d.height names.height.1)
    where
      least : (z : ℤ) → z ≤ℤ pos 60 → z ≤ℤ pos 132
      least z h = omega (arith, ints)

  -- a screen changes nothing
  then_scripted : (L log : List LogLine) (screen text : List ℕ) (p : Progress) (after : State) → TextIsRead d p screen p → IsScripted L log text p after → IsScripted L log (screen ++ text) p after
  then_scripted L log screen text p after here t = record { reached = t.reached; reads = text_append d p p t.reached screen text here t.reads; holds = t.holds }

  run_read : (script : List Item) (L : List LogLine) (p : Progress) (s : State) → IsFitState d s → HasNoSheets s → All (λ window. IsNamed d window.id) s.windows → All AreCharacters (lines_after d s script) → Holds L s p
      → IsScripted L (lines_after d s script) (texts session_after item_text (quiet (session s)) script) p (states session_after (quiet (session s)) script).state
  run_read [] L p s f bare windows has h = record { reached = p; reads = text_nothing d p; holds = subst (λ log. Holds log s p) (sym (append-nil L)) h }
  run_read (items.Event e ∷ script) L p s f bare windows has h =
      let after = step d s e in
      let rest = lines_after d after script in
      let r = event_read L p s e f windows (all_left AreCharacters after.log rest has) h in
      let t = run_read script (L ++ after.log) r.reached after (runs-fit d dialogs s after f (by_event e refl)) (runs-bare d s after bare (by_event e refl)) (step_good d names s e f windows).1 (all_right AreCharacters after.log rest has) r.holds in
      record {
        reached = t.reached;
        reads = text_append d p r.reached t.reached (log_text d after.log) (texts session_after item_text (quiet (session after)) script) (log_text_read d p r.reached after.log r.reads) t.reads;
        holds = subst (λ log. Holds log (states session_after (quiet (session after)) script).state t.reached) (append_assoc L after.log rest) t.holds;
      }
  run_read (items.Shot ∷ script) L p s f bare windows has h =
      then_scripted L (lines_after d s script) (shot_text (quiet (session s))) (texts session_after item_text (quiet (session s)) script) p (states session_after (quiet (session s)) script).state
      (shot_read d width height p (with_empty_log s) bare) (run_read script L p s f bare windows has h)
  run_read (items.Colors ∷ script) L p s f bare windows has h =
      then_scripted L (lines_after d s script) (colors_text (quiet (session s))) (texts session_after item_text (quiet (session s)) script) p (states session_after (quiet (session s)) script).state
      (colors_read d width height p (with_empty_log s)) (run_read script L p s f bare windows has h)

  -- ---- the start

  abbrev IsBegun : State → Type 0
  IsBegun s = All IsNoEnd s.log × (s.saved ≡ (closed d).saved)

  begun_at : (place : Option ℕ) → IsBegun (started_at d place)
  begun_at None = (All-nil IsNoEnd, refl)
  begun_at (Some place) =
      let b = opens-beside d dialogs (closed d) (closed_kept d dialogs) place (closed d) (All-nil IsNoEnd, refl, refl, refl) in
      (b.log, b.saved)

  pub begun_by : (name : Option (List ℕ)) → IsBegun (started_by d name)
  begun_by None = (All-nil IsNoEnd, refl)
  begun_by (Some name) = begun_at (position (is_named name) d.dialogs)

  start_holds : Holds (start d).log (start d) (nothing_read d)
  start_holds =
      let b = begun_by d.start in
      kept_holds [] (start d).log (closed d) (start d) (nothing_read d) (λ i. none_ends i (start d).log b.0) b.1 (ap (λ list. record { dialogs = list; misfits = [] }) (unsaved d.dialogs))

  start_read : IsRead d (nothing_read d) (start d).log (nothing_read d)
  start_read =
      let log = (start d).log in
      told_read d (nothing_read d) log (told_before d log [] (begun_by d.start).0 (subst (IsClean d) (sym (append-nil log)) (start_good d names).0))

  -- ---- the whole

  whole_lines : (text : List ℕ) (p q : Progress) (x : TextIsRead d p text q) → lines_of text ≡ x.lines
  whole_lines text p q x = ap lines_of (sym (append-nil text)) ∙ x.split [] ∙ append-nil x.lines

  pub characters_read : (script : List Item) → All AreCharacters (logged d script) → answers_in d (output (started d) script) ≡ Some (answers_of_run d script)
  characters_read script has =
      let log = (start d).log in
      let rest = lines_after d (start d) script in
      let t = run_read script log (nothing_read d) (start d) (start-fit d dialogs) (starts-bare d) (start_good d names).1 (all_right AreCharacters log rest has) start_holds in
      let text = texts session_after item_text (quiet (session (start d))) script in
      let whole = text_append d (nothing_read d) (nothing_read d) t.reached (log_text d log) text (log_text_read d (nothing_read d) (nothing_read d) log start_read) t.reads in
      ap (answers_of d) (whole_lines (log_text d log ++ text) (nothing_read d) t.reached whole)
      ∙ ap (option_map (λ p. p.answers)) (whole.answered 1)
      ∙ ap (λ a. Some a) t.holds
