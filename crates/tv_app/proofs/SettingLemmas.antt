-- A record that fits a dialog, in the order of its fields.
use Rattle.std.proofs.Common.{arith, add-one, drop, drop-cons, length, suc, ◌+◌, ◌≤◌, ◌≡◌, ℕ, Bool, true, false, cond, ◌==◌, ◌<◌, if◌then◌else◌, List, [], ◌∷◌, ◌++◌, map, filter, filter_map, fold, get_or, Option, Some, None, option_map, refl, sym, ap, subst, ◌∙◌, All, AllPairs, append_assoc, append-nil}
use Rattle.std.specs.Prelude.{◌↔◌, Err, IfOk, IsTrue, Ok, Result, slice_get}
use Rattle.std.specs.List.{cons_option}
use Rattle.std.proofs.lemmas.List.Elements.{All-nil, All-cons, All-head, All-tail}
use Rattle.tv_model.specs.declared.node.Id.{Id}
use Rattle.tv_model.specs.declared.node.Node.{Node}
use Rattle.tv_model.specs.declared.kind.Kind.{Kind}
use Rattle.tv_model.specs.declared.kind.Kind.TheVariants as kinds
use Rattle.tv_model.specs.declared.record.Entry.{Entry}
use Rattle.tv_model.specs.declared.record.Value.{Value}
use Rattle.tv_model.specs.declared.desc.Desc.{Desc}
use Rattle.tv_model.specs.declared.desc.Dialog.{Dialog}
use Rattle.tv_model.specs.Description.Nodes.{is_pane, node_of}
use Rattle.tv_model.specs.Log.Record.{Entries, value_of, with_value}
use Rattle.tv_machine.specs.Dialog.Lawful.{IsLawfulDialog}
use Rattle.tv_machine.specs.Dialog.Sound.{HasSoundDialogs, IsSoundDialog}
use Rattle.tv_machine.specs.Leaves.{PlacedNode, leaves_in, open_after, open_at}
use Rattle.tv_machine.specs.Safe.{IsSafeEntry, IsSafeRecord, IsSafeSaved, is_field}
use Rattle.tv_machine.proofs.LeafLemmas.{leaf_id, views-apart}
use Rattle.tv_machine.proofs.ListLemmas.{above-false, bool_cases, find-member, id-swap, option_cases, pairs-head, pairs-tail}
use Rattle.tv_dialog.specs.Fields.{entry_in, in_field_order}
use Rattle.tv_laws.proofs.WorkLemmas.{get_all}
use Rattle.tv_machine.specs.Run.{Session}
use Rattle.tv_session.specs.Session.{StandsFor, handed_in}
use Rattle.tv_app.specs.Control.{control_leaf}
use Rattle.tv_app.specs.Running.{Runs}
use Rattle.tv_lawful.specs.Laws.{RunsByLaws}
use Rattle.tv_app.specs.declared.app.App.{App}
use Rattle.tv_app.specs.Setting.{FitsDialog, HasSafeValue, IsSetFrom, IsSafeFor, IsTakenOf, with_field_found, with_view}
use Rattle.tv_app.specs.declared.setting.Taken.{Taken}
use Rattle.tv_machine.proofs.EntryLemmas.{entry_with, none_behind, one_more}

abbrev entry_id : Entry → Id
entry_id entry = entry.id

abbrev is_field_leaf : PlacedNode → Bool
is_field_leaf leaf = is_field leaf.node.kind

abbrev Rising : Node → Node → Type 0
Rising view later = view.id.0 < later.id.0

-- ---- a field that has no value yet

pane_no_field : (k : Kind) → is_pane k ≡ true → is_field k ≡ false
pane_no_field (kinds.Pane pane) e = refl
pane_no_field _ e = absurd cc

module _ (values : Entries) where
  abbrev view_entry : Node → Option Entry
  view_entry view = if is_field view.kind then entry_in values view.id else None

  -- no value is there yet for the view
  abbrev IsAbsent : Entries → Node → Type 0
  IsAbsent ordered view = value_of ordered view.id.0 ≡ None

  added : (views : List Node) (ordered : Entries) → AllPairs Rising views → All (IsAbsent ordered) views
      → fold (with_view values) ordered views ≡ ordered ++ filter_map view_entry views
  added [] ordered rising absent = sym (append-nil ordered)
  added (view ∷ views) ordered rising absent =
      let later = pairs-tail Rising view views rising in
      let others = All-tail (IsAbsent ordered) view views absent in
      let rest = filter_map view_entry views in
      bool_cases (is_field view.kind)
      (λ b. fold (with_view values) (if b then with_field_found ordered view.id (value_of values view.id.0) else ordered) views
      ≡ ordered ++ cons_option (if b then entry_in values view.id else None) rest)
      (λ is. option_cases (value_of values view.id.0)
      (λ o. fold (with_view values) (with_field_found ordered view.id o) views ≡ ordered ++ cons_option (option_map (entry_with view.id) o) rest)
      (λ none. added views ordered later others)
      (λ value some.
      let e = entry_with view.id value in
      ap (λ es. fold (with_view values) es views) (one_more ordered view.id value (All-head (IsAbsent ordered) view views absent))
      ∙ added views (ordered ++ e ∷ []) later
      (λ k n h. none_behind ordered e (get_or views k n).id.0 (others k n h)
      (id-swap view.id (get_or views k n).id ∙ above-false view.id.0 (get_or views k n).id.0 (pairs-head Rising view views rising k n h)))
      ∙ append_assoc ordered (e ∷ []) rest))
      (λ is. added views ordered later others)

  -- ---- the order is that of the fields

  among_leaves : (panes views : List Node)
      → filter_map (entry_in values) (map leaf_id (filter is_field_leaf (leaves_in panes views))) ≡ filter_map view_entry views
  among_leaves panes [] = refl
  among_leaves panes (view ∷ views) =
      let leaves = leaves_in (open_after panes view) views in
      let placed : PlacedNode = record { node = view; panes = open_at view.depth panes } in
      let rest = filter_map view_entry views in
      let more = among_leaves (open_after panes view) views in
      bool_cases (is_pane view.kind)
      (λ b. filter_map (entry_in values) (map leaf_id (filter is_field_leaf (if b then leaves else placed ∷ leaves)))
      ≡ cons_option (if is_field view.kind then entry_in values view.id else None) rest)
      (λ is. more ∙ ap (λ b. cons_option (if b then entry_in values view.id else None) rest) (sym (pane_no_field view.kind is)))
      (λ is. bool_cases (is_field view.kind)
      (λ b. filter_map (entry_in values) (map leaf_id (cond b (placed ∷ filter is_field_leaf leaves) (filter is_field_leaf leaves)))
      ≡ cons_option (if b then entry_in values view.id else None) rest)
      (λ field. ap (cons_option (entry_in values view.id)) more) (λ field. more))

  -- ---- they are the fields, with safe values

  ids_taken : (panes views : List Node) → All (HasSafeValue values) views
      → map entry_id (filter_map (entry_in values) (map leaf_id (filter is_field_leaf (leaves_in panes views))))
      ≡ map leaf_id (filter is_field_leaf (leaves_in panes views))
  ids_taken panes [] all = refl
  ids_taken panes (view ∷ views) all =
      let leaves = leaves_in (open_after panes view) views in
      let placed : PlacedNode = record { node = view; panes = open_at view.depth panes } in
      let fields = filter is_field_leaf leaves in
      let more = ids_taken (open_after panes view) views (All-tail (HasSafeValue values) view views all) in
      bool_cases (is_pane view.kind)
      (λ b. map entry_id (filter_map (entry_in values) (map leaf_id (filter is_field_leaf (if b then leaves else placed ∷ leaves))))
      ≡ map leaf_id (filter is_field_leaf (if b then leaves else placed ∷ leaves)))
      (λ is. more)
      (λ is. bool_cases (is_field view.kind)
      (λ b. (b ≡ true → IsSafeFor view.kind (value_of values view.id.0))
      → map entry_id (filter_map (entry_in values) (map leaf_id (cond b (placed ∷ fields) fields))) ≡ map leaf_id (cond b (placed ∷ fields) fields))
      (λ field has. option_cases (value_of values view.id.0)
      (λ o. IsSafeFor view.kind o
      → map entry_id (cons_option (option_map (entry_with view.id) o) (filter_map (entry_in values) (map leaf_id fields))) ≡ view.id ∷ map leaf_id fields)
      (λ none safe. absurd safe) (λ value some safe. ap (λ is. view.id ∷ is) more) (has refl))
      (λ field has. more)
      (All-head (HasSafeValue values) view views all))

  module _ (dialog : Dialog) where
    safe_entries : (views : List Node) → All (λ view. node_of dialog.views view.id ≡ Some view) views → All (HasSafeValue values) views
        → All (IsSafeEntry dialog) (filter_map view_entry views)
    safe_entries [] found all = All-nil (IsSafeEntry dialog)
    safe_entries (view ∷ views) found all =
        let rest = filter_map view_entry views in
        let here = All-head (λ other. node_of dialog.views other.id ≡ Some other) view views found in
        let more = safe_entries views (All-tail (λ other. node_of dialog.views other.id ≡ Some other) view views found) (All-tail (HasSafeValue values) view views all) in
        bool_cases (is_field view.kind)
        (λ b. (b ≡ true → IsSafeFor view.kind (value_of values view.id.0)) → All (IsSafeEntry dialog) (cons_option (if b then entry_in values view.id else None) rest))
        (λ field has. option_cases (value_of values view.id.0)
        (λ o. IsSafeFor view.kind o → All (IsSafeEntry dialog) (cons_option (option_map (entry_with view.id) o) rest))
        (λ none safe. absurd safe)
        (λ value some safe. All-cons (IsSafeEntry dialog) (entry_with view.id value) rest (record { node = view; there = here; value = safe }) more)
        (has refl))
        (λ field has. more)
        (All-head (HasSafeValue values) view views all)

  pub ordered_fields : (dialog : Dialog) → IsLawfulDialog dialog → fold (with_view values) [] dialog.views ≡ in_field_order dialog values
  ordered_fields dialog lawful =
      added dialog.views [] (pairs-tail Rising dialog.node dialog.views lawful.rising) (λ k e h. refl) ∙ sym (among_leaves [] dialog.views)

  pub safe_record : (dialog : Dialog) → IsLawfulDialog dialog → FitsDialog dialog values → IsSafeRecord dialog (in_field_order dialog values)
  safe_record dialog lawful fits = record {
    fields = ids_taken [] dialog.views fits.each;
    values = subst (All (IsSafeEntry dialog)) (sym (among_leaves [] dialog.views))
        (safe_entries dialog dialog.views (find-member (λ view. view.id) dialog.views (views-apart dialog lawful)) fits.each);
  }

-- what is taken may be saved of the dialog at the place
pub safe_taken : (d : Desc) → HasSoundDialogs d → (name : List ℕ) (values : Entries) (taken : Taken) → IsTakenOf d name values taken
    → IsSafeSaved d taken.place taken.values
safe_taken d sound name values taken t =
    let dialog = t.fits.dialog in
    record {
      dialog = dialog;
      there = subst (λ (n : ℕ). slice_get d.dialogs n ≡ Some dialog) t.place t.fits.there;
      record_of = subst (IsSafeRecord dialog) (sym t.order)
          (safe_record values dialog (get_all IsSoundDialog d.dialogs t.fits.place dialog sound t.fits.there).lawful t.fits.fits);
    }

-- ---- one view after the other

longer : (entries : Entries) (i : Id) (value : Value) → length (with_value entries i value) ≤ length entries + 1
longer [] i value = omega arith
longer (x ∷ entries) i value =
    let more = longer entries i value in
    bool_cases (x.id.0 == i.0)
    (λ b. length (if b then entry_with x.id value ∷ entries else x ∷ with_value entries i value) ≤ length (x ∷ entries) + 1)
    (λ is. omega arith) (λ is. omega (arith, more))

view_longer : (values ordered : Entries) (view : Node) → length (with_view values ordered view) ≤ length ordered + 1
view_longer values ordered view =
    bool_cases (is_field view.kind)
    (λ b. length (if b then with_field_found ordered view.id (value_of values view.id.0) else ordered) ≤ length ordered + 1)
    (λ is. option_cases (value_of values view.id.0) (λ o. length (with_field_found ordered view.id o) ≤ length ordered + 1)
    (λ none. omega arith) (λ value some. longer ordered view.id value))
    (λ is. omega arith)

pub one_added : (values ordered new : Entries) (view : Node) (views : List Node) (k : ℕ) (whole : Entries) → k < length views → view ≡ get_or views k view
    → new ≡ with_view values ordered view → (length ordered ≤ k) × (fold (with_view values) ordered (drop k views) ≡ whole)
    → (length new ≤ k + 1) × (fold (with_view values) new (drop (k + 1) views) ≡ whole)
one_added values ordered new view views k whole less is same before =
    let first : drop k views ≡ view ∷ drop (k + 1) views = rw add-one (drop-cons views k view less ∙ ap (λ y. y ∷ drop (suc k) views) (sym is)) in
    let few = view_longer values ordered view in
    let short : length new ≤ length ordered + 1 = subst (λ (es : Entries). length es ≤ length ordered + 1) (sym same) few in
    let room = before.0 in (
      omega (arith, short, room),
      ap (λ es. fold (with_view values) es (drop (k + 1) views)) same ∙ sym (ap (fold (with_view values) ordered) first) ∙ before.1,
    )

-- ---- what is decided, if memory doesn't run out

pub if_field : {E : Type 0} (r : Result Bool E) (kind : Kind) (o : Option Value) → is_field kind ≡ true → IfOk r (λ b. IsTrue b ↔ IsSafeFor kind o)
    → IfOk r (λ b. IsTrue b ↔ (is_field kind ≡ true → IsSafeFor kind o))
if_field (Ok b) kind o field law = ((λ e f. law.0 e), (λ safe. law.1 (safe field)))
if_field (Err error) kind o field law = tt

pub if_fits : {E : Type 0} (r : Result Bool E) (dialog : Dialog) (values : Entries) → length values ≡ length (in_field_order dialog values)
    → IfOk r (λ b. IsTrue b ↔ All (HasSafeValue values) dialog.views) → IfOk r (λ b. IsTrue b ↔ FitsDialog dialog values)
if_fits (Ok b) dialog values count law = ((λ e. record { each = law.0 e; count = count }), (λ fits. law.1 fits.each))
if_fits (Err error) dialog values count law = tt

-- ---- runs

pub sound_run : (app : App) (s : Session) → Runs app s → HasSoundDialogs s.desc
sound_run app s r = r.sound

-- an application runs what its session stands for, where one does that runs the same description
pub runs_on : (app after : App) (s t : Session) → t.desc ≡ s.desc → Runs app s → StandsFor control_leaf after.session t → Runs after t
runs_on app after s t same r stands = record {
  stands = stands;
  fit = stands.fit;
  sound = subst HasSoundDialogs (sym same) r.sound;
  laws = subst RunsByLaws (sym same) r.laws;
}

-- so does the same one
pub also_runs : (app : App) (s t : Session) → Runs app s → StandsFor control_leaf app.session t → Runs app t
also_runs app s t r stands = runs_on app app s t (sym stands.desc ∙ r.stands.desc) r stands

pub taken_runs : (s : Session) (app after : App) (name : List ℕ) (values : Entries) (taken : Taken) → IsTakenOf s.desc name values taken → Runs app s
    → StandsFor control_leaf after.session (handed_in taken.place taken.values s) → IsSetFrom s name values after
taken_runs s app after name values taken t r stands = record {
  fits = t.fits;
  runs =
      runs_on app after s (handed_in t.fits.place (in_field_order t.fits.dialog values) s) refl r
      (subst (λ (n : ℕ). StandsFor control_leaf after.session (handed_in n (in_field_order t.fits.dialog values) s)) (sym t.place)
      (subst (λ es. StandsFor control_leaf after.session (handed_in taken.place es s)) t.order stands));
}
