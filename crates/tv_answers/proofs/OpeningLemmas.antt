-- A dialog that is filled with what a log answers opens with it.
use Rattle.std.proofs.Common.{◌≡◌, ℕ, zero, suc, ◌<◌, ◌==◌, Bool, true, false, List, [], ◌∷◌, map, find, get_or, length, Option, Some, None, refl, sym, ap, subst, ◌∙◌, All}
use Rattle.std.specs.Prelude.{IfSome, slice_get, if◌then◌else◌}
use Rattle.std.specs.Option.{option_or}
use Rattle.std.specs.List.{AllByRecursion}
use Rattle.std.proofs.lemmas.List.Elements.{All-head, All-tail}
use Rattle.std.proofs.lemmas.Option.{get_or_from_slice_get, slice_get_within}
use Rattle.tv_model.specs.declared.desc.Desc.{Desc}
use Rattle.tv_model.specs.declared.desc.Dialog.{Dialog}
use Rattle.tv_model.specs.declared.node.Id.{Id}
use Rattle.tv_model.specs.declared.node.Node.{Node}
use Rattle.tv_model.specs.declared.record.Entry.{Entry}
use Rattle.tv_model.specs.declared.record.Value.{Value}
use Rattle.tv_model.specs.Description.Nodes.{AreRising, is_pane}
use Rattle.tv_model.specs.Log.Record.{Entries, value_of, with_value}
use Rattle.tv_machine.specs.Controls.Declared.{declared_value}
use Rattle.tv_machine.specs.Dialog.Opening.{opened_leaf, opened_leaves, opened_with}
use Rattle.tv_machine.specs.Leaves.{PlacedNode, leaves_in, open_after, open_at}
use Rattle.tv_machine.specs.State.{LeafState}
use Rattle.tv_machine.proofs.ListLemmas.{AreApart, above-false, bool_cases, fails-absent, find-member, found-member, has, id-swap, pairs-head, pairs-tail, same-id}
use Rattle.tv_faults.proofs.RisingLemmas.{views_rise}
use Rattle.tv_lang.specs.CanonicalDescription.{CanBeSpelled}
use Rattle.tv_answers.specs.declared.answers.Answer.{Answer}
use Rattle.tv_answers.specs.declared.answers.Answers.{Answers}
use Rattle.tv_answers.specs.Filling.{filled_dialogs, with_start, with_value_found, with_value_of, with_values_of}
use Rattle.tv_answers.specs.Laws.{OpenAsAnswered}
use Rattle.tv_answers.specs.ReadLogs.{answers_in, changed_at, is_field_named, no_answer}
use Rattle.tv_answers.proofs.BegunLemmas.{Begins, private_begun, value_begins}
use Rattle.tv_answers.proofs.KeptLemmas.{IsEntered, IsKept, answers_keep}
use Rattle.tv_answers.proofs.SpelledLemmas.{same_pane}

-- ---- views by their ids

abbrev pub view_id : Node → Id
view_id view = view.id

pub apart : (views : List Node) → AreRising views → AreApart (map view_id views)
apart [] rising = tt
apart (view ∷ views) rising = (
  fails-absent view_id views view.id
      (λ k e h. above-false view.id.0 (get_or views k e).id.0
      (pairs-head (λ node later. node.id.0 < later.id.0) view views rising k e h)),
  apart views (pairs-tail (λ node later. node.id.0 < later.id.0) view views rising),
)

-- the view that was found is the one of its id
same_view : (views : List Node) (p : Node → Bool) (view : Node) → AreRising views → find p views ≡ Some view → All (λ other. (other.id.0 == view.id.0) ≡ true → other ≡ view) views
same_view views p view rising found k e less same =
    let other : Node = get_or views k e in
    let by_id : find (has view_id view.id) views ≡ Some view = found-member view_id p views view (apart views rising) found in
    let own : find (has view_id other.id) views ≡ Some other = find-member view_id views (apart views rising) k e less in
    let both : Some other ≡ Some view = sym own ∙ ap (λ i. find (has view_id i) views) (same-id other.id view.id same) ∙ by_id in
    cc

-- ---- values that begin fields

-- the view can begin with the value, where it has the id
abbrev FitsView : Entry → Node → Type 0
FitsView entry view = (view.id.0 == entry.id.0) ≡ true → Begins view.kind entry.value

abbrev FitsDialog : Dialog → Entry → Type 0
FitsDialog dialog entry = All (FitsView entry) dialog.views

abbrev AreFit : Dialog → Answer → Type 0
AreFit dialog answer = AllByRecursion (FitsDialog dialog) answer.entries

abbrev AllFit : List Dialog → List Answer → Type 0
AllFit [] [] = Unit {0}
AllFit (dialog ∷ dialogs) (answer ∷ given) = AreFit dialog answer × AllFit dialogs given
AllFit _ _ = ⊥

none_fit : (dialogs : List Dialog) → AllFit dialogs (map (λ dialog. no_answer) dialogs)
none_fit [] = tt
none_fit (dialog ∷ dialogs) = (tt, none_fit dialogs)

changed_fit : (place : ℕ) (change : Answer → Answer) (dialogs : List Dialog) (given : List Answer) → AllFit dialogs given
    → ((dialog : Dialog) (answer : Answer) → slice_get dialogs place ≡ Some dialog → AreFit dialog answer → AreFit dialog (change answer))
    → AllFit dialogs (changed_at place change given)
changed_fit place change [] [] all keeps = tt
changed_fit place change [] (answer ∷ given) all keeps = absurd all
changed_fit place change (dialog ∷ dialogs) [] all keeps = absurd all
changed_fit zero change (dialog ∷ dialogs) (answer ∷ given) all keeps = (keeps dialog answer refl all.0, all.1)
changed_fit (suc place) change (dialog ∷ dialogs) (answer ∷ given) all keeps = (all.0, changed_fit place change dialogs given all.1 keeps)

module _ (dialog : Dialog) (id : Id) (v : Value) (has_it : FitsDialog dialog (record { id = id; value = v })) where
  put_if : (es more : Entries) (e : Entry) (b : Bool) → (e.id.0 == id.0) ≡ b → AllByRecursion (FitsDialog dialog) (e ∷ es) → AllByRecursion (FitsDialog dialog) more
      → AllByRecursion (FitsDialog dialog) (if b then record { id = e.id; value = v } ∷ es else e ∷ more)
  put_if es more e true is all later = (subst (λ (i : Id). FitsDialog dialog (record { id = i; value = v })) (sym (same-id e.id id is)) has_it, all.1)
  put_if es more e false is all later = (all.0, later)

  put : (es : Entries) → AllByRecursion (FitsDialog dialog) es → AllByRecursion (FitsDialog dialog) (with_value es id v)
  put [] all = (has_it, tt)
  put (e ∷ es) all = put_if es (with_value es id v) e (e.id.0 == id.0) refl all (put es all.1)

module _ (d : Desc) (rise : All (λ dialog. AreRising dialog.views) d.dialogs) where
  entered_fits : (place : ℕ) (view : Node) (value : Value) → (x : IsEntered d place view value) → FitsDialog x.dialog (record { id = view.id; value = value })
  entered_fits place view value x k e less same =
      let rising : AreRising x.dialog.views = subst (λ (dialog : Dialog). AreRising dialog.views) (get_or_from_slice_get d.dialogs place x.dialog x.dialog x.there) (rise place x.dialog (slice_get_within d.dialogs place x.dialog x.there)) in
      let it : get_or x.dialog.views k e ≡ view = same_view x.dialog.views (is_field_named x.name) view rising x.found k e less same in
      let begins : Begins view.kind value = subst (λ o. IfSome o (Begins view.kind)) x.valued (value_begins view.kind x.words) in
      subst (λ (other : Node). Begins other.kind value) (sym it) begins

  fit_kept : IsKept d (λ a. AllFit d.dialogs a.dialogs)
  fit_kept = record {
    misfits = λ n kind a has. has;
    commands = λ place command a has. changed_fit place (λ answer. record answer { command = Some command }) d.dialogs a.dialogs has (λ dialog answer there all. all);
    entries = λ place view value a x has.
        changed_fit place (λ answer. record answer { entries = with_value answer.entries view.id value }) d.dialogs a.dialogs has
        (λ dialog answer there all.
        let same : x.dialog ≡ dialog = (let both : Some x.dialog ≡ Some dialog = sym x.there ∙ there in cc) in
        put dialog view.id value (subst (λ (own : Dialog). FitsDialog own (record { id = view.id; value = value })) same (entered_fits place view value x)) answer.entries all);
  }

-- ---- a leaf

found_begins : (view : Node) (es : Entries) → AllByRecursion (λ e. FitsView e view) es → IfSome (value_of es view.id.0) (Begins view.kind)
found_begins view [] all = tt
found_begins view (e ∷ es) all =
    bool_cases (e.id.0 == view.id.0) (λ b. IfSome (if b then Some e.value else value_of es view.id.0) (Begins view.kind))
    (λ is. all.0 (id-swap view.id e.id ∙ is)) (λ is. found_begins view es all.1)

leaf_begun : (view : Node) (o : Option Value) → IfSome o (Begins view.kind) → opened_leaf None (with_value_found view o) ≡ opened_with view (option_or o (declared_value view.kind))
leaf_begun view None begins = refl
leaf_begun view (Some v) begins =
    ap (opened_with (record view { kind = with_start view.kind v })) begins
    ∙ ap (λ p. record { id = view.id; value = Some v; private = p }) (private_begun view.kind v (Some v))

-- ---- the leaves of a dialog

module _ (es : Entries) where
  abbrev begun_leaf : PlacedNode → LeafState
  begun_leaf leaf = opened_leaf None leaf.node

  abbrev saved_leaf : PlacedNode → LeafState
  saved_leaf leaf = opened_leaf (Some es) leaf.node

  one_before : (b : Bool) (view : Node) (ps qs : List Node) (ls ms : List PlacedNode) → opened_leaf None (with_value_of es view) ≡ opened_leaf (Some es) view → map begun_leaf ls ≡ map saved_leaf ms
      → map begun_leaf (if b then ls else record { node = with_value_of es view; panes = ps } ∷ ls) ≡ map saved_leaf (if b then ms else record { node = view; panes = qs } ∷ ms)
  one_before true view ps qs ls ms here more = more
  one_before false view ps qs ls ms here more = ap (λ l. l ∷ map begun_leaf ls) here ∙ ap (λ rest. saved_leaf (record { node = view; panes = qs }) ∷ rest) more

  found_pane : (view : Node) (o : Option Value) → is_pane (with_value_found view o).kind ≡ is_pane view.kind
  found_pane view None = refl
  found_pane view (Some v) = same_pane view.kind v

  leaves_begun : (views ps qs : List Node) → All (λ view. opened_leaf None (with_value_of es view) ≡ opened_leaf (Some es) view) views
      → map begun_leaf (leaves_in ps (map (with_value_of es) views)) ≡ map saved_leaf (leaves_in qs views)
  leaves_begun [] ps qs all = refl
  leaves_begun (view ∷ views) ps qs all =
      let begun : Node = with_value_of es view in
      let ls = leaves_in (open_after ps begun) (map (with_value_of es) views) in
      let ms = leaves_in (open_after qs view) views in
      ap (λ b. map begun_leaf (if b then ls else record { node = begun; panes = open_at begun.depth ps } ∷ ls)) (found_pane view (value_of es view.id.0))
      ∙ one_before (is_pane view.kind) view (open_at begun.depth ps) (open_at view.depth qs) ls ms
      (All-head (λ n. opened_leaf None (with_value_of es n) ≡ opened_leaf (Some es) n) view views all)
      (leaves_begun views (open_after ps begun) (open_after qs view) (All-tail (λ n. opened_leaf None (with_value_of es n) ≡ opened_leaf (Some es) n) view views all))

all_fit : (dialog : Dialog) (k : ℕ) (view : Node) → k < length dialog.views → (es : Entries) → AllByRecursion (FitsDialog dialog) es → AllByRecursion (λ e. FitsView e (get_or dialog.views k view)) es
all_fit dialog k view less [] all = tt
all_fit dialog k view less (e ∷ es) all = (all.0 k view less, all_fit dialog k view less es all.1)

opens : (dialog : Dialog) (es : Entries) → AllByRecursion (FitsDialog dialog) es → opened_leaves (with_values_of es dialog) None ≡ opened_leaves dialog (Some es)
opens dialog es all =
    leaves_begun es dialog.views [] []
    (λ k view less.
    let own : Node = get_or dialog.views k view in
    leaf_begun own (value_of es own.id.0) (found_begins own es (all_fit dialog k view less es all)))

-- ---- the dialogs of a description

record IsBegun (dialogs : List Dialog) (given : List Answer) (place : ℕ) (dialog : Dialog) : Type 0 where
  answer : Answer
  answered : slice_get given place ≡ Some answer
  fits : AreFit dialog answer
  there : slice_get (filled_dialogs dialogs given) place ≡ Some (with_values_of answer.entries dialog)

begun : (dialogs : List Dialog) (given : List Answer) (place : ℕ) (dialog : Dialog) → AllFit dialogs given → slice_get dialogs place ≡ Some dialog → IsBegun dialogs given place dialog
begun [] given place dialog all is = absurd cc
begun (first ∷ dialogs) [] place dialog all is = absurd all
begun (first ∷ dialogs) (answer ∷ given) zero dialog all is =
    let same : first ≡ dialog = cc in
    record { answer = answer; answered = refl; fits = subst (λ (own : Dialog). AreFit own answer) same all.0; there = ap (λ (own : Dialog). Some (with_values_of answer.entries own)) same }
begun (first ∷ dialogs) (answer ∷ given) (suc place) dialog all is =
    let x = begun dialogs given place dialog all.1 is in
    record { answer = x.answer; answered = x.answered; fits = x.fits; there = x.there }

-- the dialog at a place begins with its answer, and opens so
pub record IsFilledAt (d : Desc) (a : Answers) (place : ℕ) (dialog : Dialog) : Type 0 where
  pub answer : Answer
  pub answered : slice_get a.dialogs place ≡ Some answer
  pub there : slice_get (filled_dialogs d.dialogs a.dialogs) place ≡ Some (with_values_of answer.entries dialog)
  pub leaves : opened_leaves (with_values_of answer.entries dialog) None ≡ opened_leaves dialog (Some answer.entries)

pub filled_at : (d : Desc) (text : List ℕ) → CanBeSpelled d → (a : Answers) (place : ℕ) (dialog : Dialog) → answers_in d text ≡ Some a → slice_get d.dialogs place ≡ Some dialog → IsFilledAt d a place dialog
filled_at d text can a place dialog is there =
    let rise = views_rise d can.1.can in
    let x = begun d.dialogs a.dialogs place dialog (answers_keep d (λ (given : Answers). AllFit d.dialogs given.dialogs) (fit_kept d rise) text a (none_fit d.dialogs) is) there in
    record { answer = x.answer; answered = x.answered; there = x.there; leaves = opens dialog x.answer.entries x.fits }

pub open_as_answered : (d : Desc) (text : List ℕ) → CanBeSpelled d → OpenAsAnswered d text
open_as_answered d text can a place dialog is there =
    let x = filled_at d text can a place dialog is there in
    record { answer = x.answer; answered = x.answered; begun = with_values_of x.answer.entries dialog; there = x.there; leaves = x.leaves }
