-- What a run logs of fields is of characters, where its script types no other numbers.
use Rattle.std.proofs.Common.{◌≡◌, ◌⊎◌, inl, inr, ℕ, ◌==◌, List, [], ◌∷◌, map, filter_map, Option, Some, None, option_map, unwrap_or, refl, sym, ap, subst, ◌∙◌, All}
use Rattle.std.specs.Prelude.{slice_get}
use Rattle.std.specs.List.{cons_option}
use Rattle.std.proofs.lemmas.List.{append-nil}
use Rattle.std.proofs.lemmas.List.Elements.{All-append, All-cons, All-head, All-map, All-nil, All-tail, All-weaker}
use Rattle.tv_cells.specs.declared.rect.Point.{Point}
use Rattle.tv_event.specs.declared.event.Event.{Event}
use Rattle.tv_event.specs.declared.event.Event.TheVariants as events
use Rattle.tv_lang.specs.CanonicalDescription.{CanBeSpelled}
use Rattle.tv_laws.proofs.RecordLaws.SavedLemmas.{reopens-as-saved, saves-what-it-logs, starts-as-declared}
use Rattle.tv_laws.proofs.RunLemmas.{runs-fit, start-fit}
use Rattle.tv_laws.proofs.WorkLemmas.{get_set, nothing}
use Rattle.tv_laws.specs.Records.{IsEnd, IsEndless, ShowsSaved, declared_entry, end_lines, opened_record}
use Rattle.tv_laws.specs.Runs.{IsFitState}
use Rattle.tv_laws.specs.Runs.IsNext.{by_event}
use Rattle.tv_machine.proofs.EntryLemmas.{entry_with}
use Rattle.tv_machine.proofs.LeafLemmas.{leaves-all}
use Rattle.tv_machine.proofs.ListLemmas.{bool_cases, option_cases}
use Rattle.tv_machine.specs.Controls.Declared.{declared_value}
use Rattle.tv_machine.specs.declared.script.Item.{Item}
use Rattle.tv_machine.specs.declared.script.Item.TheVariants as items
use Rattle.tv_machine.specs.Dialog.Ending.{field_line, fields_of}
use Rattle.tv_machine.specs.Dialog.Modal.{Modal}
use Rattle.tv_machine.specs.Leaves.{PlacedNode, leaf_list}
use Rattle.tv_machine.specs.Session.Commands.{after_work, modal_of}
use Rattle.tv_machine.specs.Session.Start.{start}
use Rattle.tv_machine.specs.Session.Step.{event_from, step}
use Rattle.tv_machine.specs.State.{LeafState, OpenDialog, State}
use Rattle.tv_model.specs.declared.desc.Desc.{Desc}
use Rattle.tv_model.specs.declared.desc.Dialog.{Dialog}
use Rattle.tv_model.specs.declared.kind.Kind.{Kind}
use Rattle.tv_model.specs.declared.kind.Kind.TheVariants as kinds
use Rattle.tv_model.specs.declared.log.LogLine.{LogLine}
use Rattle.tv_model.specs.declared.log.LogLine.TheVariants as lines
use Rattle.tv_model.specs.declared.record.Entry.{Entry}
use Rattle.tv_model.specs.declared.record.Value.{Value}
use Rattle.tv_model.specs.Faults.{IsSound}
use Rattle.tv_model.specs.Log.Record.{Entries}
use Rattle.tv_answers.specs.Laws.{EventTypes, HasCharacters, IsTyped, LogIsRead, lines_after, logged}
use Rattle.tv_answers.proofs.CharacterLemmas.{InputHasChars, ValueHasChars, all_scalar}
use Rattle.tv_answers.proofs.EndedLemmas.{none_saved}
use Rattle.tv_answers.proofs.RunReadLemmas.{AreCharacters, begun_by, characters_read, dialogs, names}
use Rattle.tv_answers.proofs.SpelledCharLemmas.{KindSpellsChars, NodeSpellsChars, spelled_chars}
use Rattle.tv_answers.proofs.ToldLemmas.{IsClean, IsNamed, IsTold, told_before}
use Rattle.tv_answers.proofs.ToldSessionLemmas.{start_good, step_good}
use Rattle.tv_answers.proofs.TypedLemmas.{LeafHasChars, commanded, step_typed}
use Rattle.tv_answers.proofs.WorkStepLemmas.{event_comes, quiet}

-- ---- fields

abbrev EntryHasChars : Entry → Type 0
EntryHasChars entry = HasCharacters entry.value

abbrev HaveChars : Entries → Type 0
HaveChars es = All EntryHasChars es

one_field : (i : LeafState) (v : Option Value) (es : Entries) → ValueHasChars v → HaveChars es → HaveChars (cons_option (option_map (entry_with i.id) v) es)
one_field i None es has all = all
one_field i (Some v) es has all = All-cons EntryHasChars (entry_with i.id v) es has all

fields_chars : (leaves : List LeafState) → All LeafHasChars leaves → HaveChars (fields_of leaves)
fields_chars [] all = All-nil EntryHasChars
fields_chars (leaf ∷ leaves) all =
    one_field leaf leaf.value (fields_of leaves) (All-head LeafHasChars leaf leaves all) (fields_chars leaves (All-tail LeafHasChars leaf leaves all))

one_leaf : (leaf : LeafState) (v : Option Value) (es : Entries) → HaveChars (cons_option (option_map (entry_with leaf.id) v) es) → ValueHasChars v × HaveChars es
one_leaf leaf None es all = (tt, all)
one_leaf leaf (Some v) es all = (All-head EntryHasChars (entry_with leaf.id v) es all, All-tail EntryHasChars (entry_with leaf.id v) es all)

leaves_chars : (leaves : List LeafState) → HaveChars (fields_of leaves) → All LeafHasChars leaves
leaves_chars [] all = All-nil LeafHasChars
leaves_chars (leaf ∷ leaves) all =
    let both = one_leaf leaf leaf.value (fields_of leaves) all in
    All-cons LeafHasChars leaf leaves both.0 (leaves_chars leaves both.1)

declared_chars : (k : Kind) → KindSpellsChars k → ValueHasChars (declared_value k)
declared_chars (kinds.Input input) spells = all_scalar input.start spells.0
declared_chars (kinds.CheckBoxes boxes) spells = tt
declared_chars (kinds.RadioButtons radios) spells = tt
declared_chars (kinds.List list) spells = tt
declared_chars _ spells = tt

one_declared : (leaf : PlacedNode) (v : Option Value) (es : Entries) → ValueHasChars v → HaveChars es → HaveChars (cons_option (option_map (entry_with leaf.node.id) v) es)
one_declared leaf None es has all = all
one_declared leaf (Some v) es has all = All-cons EntryHasChars (entry_with leaf.node.id v) es has all

record_chars : (leaves : List PlacedNode) → All (λ leaf. NodeSpellsChars leaf.node) leaves → HaveChars (filter_map declared_entry leaves)
record_chars [] all = All-nil EntryHasChars
record_chars (leaf ∷ leaves) all =
    one_declared leaf (declared_value leaf.node.kind) (filter_map declared_entry leaves) (declared_chars leaf.node.kind (All-head (λ (x : PlacedNode). NodeSpellsChars x.node) leaf leaves all))
    (record_chars leaves (All-tail (λ (x : PlacedNode). NodeSpellsChars x.node) leaf leaves all))

fills : (k : Kind) → KindSpellsChars k → InputHasChars k
fills (kinds.Input input) spells = spells.1
fills _ spells = tt

seen_types : (corner : Point) (e : Event) → EventTypes e → EventTypes (event_from corner e)
seen_types corner (events.Key k) types = types
seen_types corner (events.Down p) types = tt
seen_types corner (events.Move p) types = tt
seen_types corner (events.Up p) types = tt
seen_types corner (events.Command c) types = tt
seen_types corner (events.Broadcast c) types = tt

told_chars : (d : Desc) (line : LogLine) → IsTold d line → AreCharacters line
told_chars d (lines.Field i value) told = absurd told
told_chars d _ told = tt

module _ (d : Desc) (can : CanBeSpelled d) (sound : IsSound d) where
  -- the texts of the open dialog and of saved records are of characters
  record HasTexts (s : State) : Type 0 where
    opened : (o : OpenDialog) → s.dialog ≡ Some o → All LeafHasChars o.leaves
    saved : (place : ℕ) (es : Entries) → slice_get s.saved place ≡ Some (Some es) → HaveChars es

  spells_leaves : (place : ℕ) (dialog : Dialog) → slice_get d.dialogs place ≡ Some dialog → All (λ leaf. NodeSpellsChars leaf.node) (leaf_list dialog.views)
  spells_leaves place dialog there = leaves-all NodeSpellsChars [] dialog.views (spelled_chars d can place dialog there)

  shown_chars : (s : State) (o : OpenDialog) → ((place : ℕ) (es : Entries) → slice_get s.saved place ≡ Some (Some es) → HaveChars es) → ShowsSaved d s o → All LeafHasChars o.leaves
  shown_chars s o has x = leaves_chars o.leaves (subst HaveChars (sym x.shown) (by_saved (slice_get s.saved o.place) refl))
    where
      by_saved : (saved : Option (Option Entries)) → slice_get s.saved o.place ≡ saved → HaveChars (opened_record x.dialog (unwrap_or saved None))
      by_saved None is = record_chars (leaf_list x.dialog.views) (spells_leaves o.place x.dialog x.there)
      by_saved (Some None) is = record_chars (leaf_list x.dialog.views) (spells_leaves o.place x.dialog x.there)
      by_saved (Some (Some es)) is = has o.place es is

  -- ---- one event

  module _ (s : State) (f : IsFitState d s) (t : HasTexts s) (e : Event) (types : EventTypes e) where
    abbrev next : State
    next = step d s e

    law : IsEndless s next ⊎ IsEnd d s next
    law = saves-what-it-logs d (dialogs d can sound) s next f (by_event e refl)

    module _ (o : OpenDialog) (some : s.dialog ≡ Some o) (dialog : Dialog) (there : slice_get d.dialogs o.place ≡ Some dialog) where
      own : All (λ leaf. InputHasChars leaf.node.kind) (leaf_list dialog.views)
      own = All-weaker (λ leaf. NodeSpellsChars leaf.node) (λ leaf. InputHasChars leaf.node.kind) (λ leaf. fills leaf.node.kind) (leaf_list dialog.views) (spells_leaves o.place dialog there)

      abbrev Opens : State → Type 0
      Opens after = (x : OpenDialog) → after.dialog ≡ Some x → All LeafHasChars x.leaves

      works : (m : Modal) (over : Option ℕ) → All LeafHasChars m.leaves → Opens (after_work (quiet d s f o some dialog there) o m over)
      works m None all x is = (let same : record o { leaves = m.leaves; focus = m.focus; held = m.held } ≡ x = cc in subst (λ (y : OpenDialog). All LeafHasChars y.leaves) same all)
      works m (Some number) all x is = absurd cc

      stays : Opens next
      stays =
          event_comes d s f o some dialog there e (λ m. All LeafHasChars m.leaves) Opens (λ m all. works m m.ended all)
          (λ after stands x is. subst (All LeafHasChars) (sym (stands.1 x is)) (t.opened o some))
          (λ corner by. step_typed dialog own (event_from corner e) (modal_of s o) (seen_types corner e types) (t.opened o some))
          (λ number is. commanded dialog own number (modal_of s o) (t.opened o some))

    opened_next : (o : OpenDialog) → next.dialog ≡ Some o → All LeafHasChars o.leaves
    opened_next o is =
        option_cases s.dialog (λ x. s.dialog ≡ x → All LeafHasChars o.leaves)
        (λ none was. shown_chars s o t.saved (reopens-as-saved d (dialogs d can sound) s next o f (by_event e refl) was is))
        (λ x some was. let own = f.«open» x was in stays x was own.dialog own.there o is) refl

    saved_by : IsEndless s next ⊎ IsEnd d s next → (place : ℕ) (es : Entries) → slice_get next.saved place ≡ Some (Some es) → HaveChars es
    saved_by (inl x) place es is = t.saved place es (ap (λ (saved : List (Option Entries)). slice_get saved place) (sym x.saved) ∙ is)
    saved_by (inr x) place es is =
        bool_cases (x.number == 11) (λ b. (x.number == 11) ≡ b → HaveChars es)
        (λ cancels so. t.saved place es (ap (λ (saved : List (Option Entries)). slice_get saved place) (sym (x.cancelled so)) ∙ is))
        (λ saves so. by_place (get_set s.saved x.«open».place (Some (fields_of x.«open».leaves)) place (Some es) (ap (λ (saved : List (Option Entries)). slice_get saved place) (sym (x.saved so).set) ∙ is))) refl
      where
        by_place : ((place ≡ x.«open».place) × (Some es ≡ Some (fields_of x.«open».leaves))) ⊎ (slice_get s.saved place ≡ Some (Some es)) → HaveChars es
        by_place (inl (at, same)) = (let own : es ≡ fields_of x.«open».leaves = cc in subst HaveChars (sym own) (fields_chars x.«open».leaves (t.opened x.«open» x.was)))
        by_place (inr old) = t.saved place es old

    texts_next : HasTexts next
    texts_next = record { opened = opened_next; saved = saved_by law }

    logged_by : IsEndless s next ⊎ IsEnd d s next → IsClean d next.log → All AreCharacters next.log
    logged_by (inl x) clean =
        All-weaker (IsTold d) AreCharacters (told_chars d) next.log (told_before d next.log [] x.log (subst (IsClean d) (sym (append-nil next.log)) clean))
    logged_by (inr x) clean =
        let es = fields_of x.«open».leaves in
        let last = end_lines x.dialog x.number es in
        let told = told_before d x.logged.before last x.logged.endless (subst (IsClean d) x.logged.written clean) in
        subst (All AreCharacters) (sym x.logged.written)
        (All-append AreCharacters x.logged.before last (All-weaker (IsTold d) AreCharacters (told_chars d) x.logged.before told)
        (All-cons AreCharacters (lines.End x.dialog.node.id (record { 0 = x.number })) (map field_line es) tt (All-map AreCharacters field_line es (fields_chars x.«open».leaves (t.opened x.«open» x.was)))))

  -- ---- a script

  run_chars : (script : List Item) (s : State) → IsFitState d s → All (λ window. IsNamed d window.id) s.windows → HasTexts s → All IsTyped script → All AreCharacters (lines_after d s script)
  run_chars [] s f windows t all = All-nil AreCharacters
  run_chars (items.Event e ∷ script) s f windows t all =
      let types = All-head IsTyped (items.Event e) script all in
      let next = step d s e in
      let good = step_good d (names d can sound) s e f windows in
      All-append AreCharacters next.log (lines_after d next script) (logged_by s f t e types (law s f t e types) good.0)
      (run_chars script next (runs-fit d (dialogs d can sound) s next f (by_event e refl)) good.1 (texts_next s f t e types) (All-tail IsTyped (items.Event e) script all))
  run_chars (items.Shot ∷ script) s f windows t all = run_chars script s f windows t (All-tail IsTyped items.Shot script all)
  run_chars (items.Colors ∷ script) s f windows t all = run_chars script s f windows t (All-tail IsTyped items.Colors script all)

  -- ---- the start

  start_texts : HasTexts (start d)
  start_texts =
      let none : (place : ℕ) (es : Entries) → slice_get (start d).saved place ≡ Some (Some es) → HaveChars es =
      λ place es is. absurd (nothing es (sym (none_saved _ place) ∙ ap (λ (saved : List (Option Entries)). unwrap_or (slice_get saved place) None) (sym (begun_by d can sound d.start).1) ∙ ap (λ (o : Option (Option Entries)). unwrap_or o None) is)) in
      record { opened = λ o is. shown_chars (start d) o none (starts-as-declared d (dialogs d can sound) o is).0; saved = none }

  start_chars : All AreCharacters (start d).log
  start_chars =
      let log = (start d).log in
      All-weaker (IsTold d) AreCharacters (told_chars d) log (told_before d log [] (begun_by d can sound d.start).0 (subst (IsClean d) (sym (append-nil log)) (start_good d (names d can sound)).0))

  -- all that is logged
  pub logged_chars : (script : List Item) → All IsTyped script → All AreCharacters (logged d script)
  logged_chars script all =
      All-append AreCharacters (start d).log (lines_after d (start d) script) start_chars
      (run_chars script (start d) (start-fit d (dialogs d can sound)) (start_good d (names d can sound)).1 start_texts all)

  pub log_is_read : LogIsRead d
  log_is_read script all = characters_read d can sound script (logged_chars script all)
