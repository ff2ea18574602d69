-- What dialogs have saved, after one more end.
use Rattle.std.proofs.Common.{◌≡◌, ℕ, zero, suc, ◌==◌, false, List, [], ◌∷◌, ◌++◌, length, map, Option, Some, None, unwrap_or, refl, sym, ap, subst, ◌∙◌, append_assoc, All, arith}
use Rattle.std.specs.Prelude.{slice_get, slice_set, if◌then◌else◌}
use Rattle.std.specs.Option.{option_or}
use Rattle.std.proofs.lemmas.Bool.{or_parts}
use Rattle.std.proofs.lemmas.List.Elements.{All-append, All-cons, All-head, All-nil, All-tail, All-weaker}
use Rattle.tv_event.specs.declared.event.Command.{Command}
use Rattle.tv_laws.specs.Records.{IsNoEnd}
use Rattle.tv_machine.proofs.ListLemmas.{AreApart, id-itself, id-swap, others-fail}
use Rattle.tv_machine.specs.Dialog.Ending.{field_line}
use Rattle.tv_machine.specs.Dialog.Rules.{is_among}
use Rattle.tv_model.specs.declared.desc.Dialog.{Dialog}
use Rattle.tv_model.specs.declared.log.LogLine.{LogLine}
use Rattle.tv_model.specs.declared.log.LogLine.TheVariants as lines
use Rattle.tv_model.specs.declared.node.Id.{Id}
use Rattle.tv_model.specs.declared.record.Entry.{Entry}
use Rattle.tv_model.specs.Log.Record.{Entries, with_value}
use Rattle.tv_answers.specs.declared.answers.Answer.{Answer}
use Rattle.tv_answers.specs.Laws.{dialogs_saved, last_end, saving_end}
use Rattle.tv_answers.specs.ReadLogs.{changed_at}
use Rattle.tv_answers.proofs.PutLemmas.{entry_id, put_all}

-- ---- entries that are put over others of the same ids

over : (e q : Entry) (done rest : Entries) → q.id ≡ e.id → All (λ x. (e.id.0 == x.id.0) ≡ false) done → with_value (done ++ q ∷ rest) e.id e.value ≡ done ++ e ∷ rest
over e q [] rest same other =
    ap (λ b. if b then record { id = q.id; value = e.value } ∷ rest else q ∷ with_value rest e.id e.value) (ap (λ (i : Id). i.0 == e.id.0) same ∙ id-itself e.id)
    ∙ ap (λ (i : Id). record { id = i; value = e.value } ∷ rest) same
over e q (x ∷ done) rest same other =
    ap (λ b. if b then record { id = x.id; value = e.value } ∷ (done ++ q ∷ rest) else x ∷ with_value (done ++ q ∷ rest) e.id e.value)
    (id-swap x.id e.id ∙ All-head (λ (y : Entry). (e.id.0 == y.id.0) ≡ false) x done other)
    ∙ ap (λ more. x ∷ more) (over e q done rest same (All-tail (λ (y : Entry). (e.id.0 == y.id.0) ≡ false) x done other))

abbrev Apart : Entries → Entry → Type 0
Apart es x = is_among (map entry_id es) x.id ≡ false

put_over : (es prev done : Entries) → map entry_id prev ≡ map entry_id es → All (Apart es) done → AreApart (map entry_id es) → put_all es (done ++ prev) ≡ done ++ es
put_over [] [] done same apart own = refl
put_over [] (q ∷ prev) done same apart own = absurd cc
put_over (e ∷ es) [] done same apart own = absurd cc
put_over (e ∷ es) (q ∷ prev) done same apart own =
    let first : q.id ≡ e.id = cc in
    let later : map entry_id prev ≡ map entry_id es = cc in
    let other : All (λ x. (e.id.0 == x.id.0) ≡ false) done =
    All-weaker (Apart (e ∷ es)) (λ x. (e.id.0 == x.id.0) ≡ false) (λ x out. (or_parts (e.id.0 == x.id.0) (is_among (map entry_id es) x.id) out).0) done apart in
    let rest : All (Apart es) done = All-weaker (Apart (e ∷ es)) (Apart es) (λ x out. (or_parts (e.id.0 == x.id.0) (is_among (map entry_id es) x.id) out).1) done apart in
    ap (put_all es) (over e q done prev first other ∙ sym (append_assoc done (e ∷ []) prev))
    ∙ put_over es prev (done ++ e ∷ []) later (All-append (Apart es) done (e ∷ []) rest (All-cons (Apart es) e [] own.0 (All-nil (Apart es)))) own.1
    ∙ append_assoc done (e ∷ []) es

pub put_again : (es prev : Entries) → map entry_id prev ≡ map entry_id es → AreApart (map entry_id es) → put_all es prev ≡ es
put_again es prev same own = put_over es prev [] same (All-nil (Apart es)) own

-- ---- the last end

either_or : (o u v : Option Command) → option_or (option_or o u) v ≡ option_or o (option_or u v)
either_or None u v = refl
either_or (Some c) u v = refl

or_none : (o : Option Command) → option_or o None ≡ o
or_none None = refl
or_none (Some c) = refl

pub last_append : (i : Id) (xs ys : List LogLine) → last_end i (xs ++ ys) ≡ option_or (last_end i ys) (last_end i xs)
last_append i [] ys = sym (or_none (last_end i ys))
last_append i (x ∷ xs) ys = ap (λ o. option_or o (saving_end i x)) (last_append i xs ys) ∙ either_or (last_end i ys) (last_end i xs) (saving_end i x)

no_saving : (i : Id) (line : LogLine) → IsNoEnd line → saving_end i line ≡ None
no_saving i (lines.End other command) none = absurd none
no_saving i _ none = refl

pub none_ends : (i : Id) (log : List LogLine) → All IsNoEnd log → last_end i log ≡ None
none_ends i [] all = refl
none_ends i (line ∷ log) all =
    ap (λ o. option_or o (saving_end i line)) (none_ends i log (All-tail IsNoEnd line log all)) ∙ no_saving i line (All-head IsNoEnd line log all)

fields_end_none : (i : Id) (es : Entries) → last_end i (map field_line es) ≡ None
fields_end_none i [] = refl
fields_end_none i (e ∷ es) = ap (λ o. option_or o None) (fields_end_none i es)

-- the end of a dialog by a command, with its fields
pub end_ends : (i own : Id) (number : ℕ) (es : Entries) → last_end i (lines.End own (record { 0 = number }) ∷ map field_line es) ≡ saving_end i (lines.End own (record { 0 = number }))
end_ends i own number es = ap (λ o. option_or o (saving_end i (lines.End own (record { 0 = number })))) (fields_end_none i es)

-- ---- what dialogs saved

abbrev pub dialog_id : Dialog → Id
dialog_id dialog = dialog.node.id

pub saved_same : (L M : List LogLine) (ds : List Dialog) (saved : List (Option Entries)) → All (λ dialog. last_end dialog.node.id L ≡ last_end dialog.node.id M) ds → dialogs_saved L ds saved ≡ dialogs_saved M ds saved
saved_same L M [] saved all = refl
saved_same L M (dialog ∷ ds) [] all = refl
saved_same L M (dialog ∷ ds) (old ∷ saved) all =
    ap (λ command. record { command = command; entries = unwrap_or old [] } ∷ dialogs_saved L ds saved) (All-head (λ (x : Dialog). last_end x.node.id L ≡ last_end x.node.id M) dialog ds all)
    ∙ ap (λ rest. record { command = last_end dialog.node.id M; entries = unwrap_or old [] } ∷ rest) (saved_same L M ds saved (All-tail (λ (x : Dialog). last_end x.node.id L ≡ last_end x.node.id M) dialog ds all))

-- the record that was saved at a place
abbrev pub old_at : List (Option Entries) → ℕ → Entries
old_at saved place = unwrap_or (unwrap_or (slice_get saved place) None) []

abbrev pub answer_of : List LogLine → Dialog → Entries → Answer
answer_of L dialog entries = record { command = last_end dialog.node.id L; entries = entries }

-- one dialog saves once more, and the others stay
pub saved_changed : (L M : List LogLine) (F : Answer → Answer) (dialog : Dialog) (es : Entries) → ((i : Id) → (i.0 == dialog.node.id.0) ≡ false → last_end i L ≡ last_end i M)
    → (place : ℕ) (ds : List Dialog) (saved : List (Option Entries)) → slice_get ds place ≡ Some dialog → length saved ≡ length ds → AreApart (map dialog_id ds)
    → F (answer_of L dialog (old_at saved place)) ≡ answer_of M dialog es
    → changed_at place F (dialogs_saved L ds saved) ≡ dialogs_saved M ds (slice_set saved place (Some es))
saved_changed L M F dialog es others place [] saved there many apart new = absurd cc
saved_changed L M F dialog es others place (first ∷ ds) [] there many apart new = absurd (omega (arith, many))
saved_changed L M F dialog es others zero (first ∷ ds) (old ∷ saved) there many apart new =
    let same : first ≡ dialog = cc in
    let not_this : All (λ x. (x.node.id.0 == dialog.node.id.0) ≡ false) ds =
    subst (λ (x : Dialog). All (λ y. (y.node.id.0 == x.node.id.0) ≡ false) ds) same (others-fail dialog_id ds first.node.id apart.0) in
    let rest : All (λ x. last_end x.node.id L ≡ last_end x.node.id M) ds =
    All-weaker (λ (x : Dialog). (x.node.id.0 == dialog.node.id.0) ≡ false) (λ x. last_end x.node.id L ≡ last_end x.node.id M) (λ x. others x.node.id) ds not_this in
    ap (λ (x : Dialog). F (answer_of L x (unwrap_or old [])) ∷ dialogs_saved L ds saved) same
    ∙ ap (λ answer. answer ∷ dialogs_saved L ds saved) new
    ∙ ap (λ (x : Dialog). answer_of M x es ∷ dialogs_saved L ds saved) (sym same)
    ∙ ap (λ more. answer_of M first es ∷ more) (saved_same L M ds saved rest)
saved_changed L M F dialog es others (suc place) (first ∷ ds) (old ∷ saved) there many apart new =
    let not_first : (dialog.node.id.0 == first.node.id.0) ≡ false = at_other ds place there (others-fail dialog_id ds first.node.id apart.0) in
    let more : length saved ≡ length ds = omega (arith, many) in
    ap (λ command. record { command = command; entries = unwrap_or old [] } ∷ changed_at place F (dialogs_saved L ds saved)) (others first.node.id (id-swap first.node.id dialog.node.id ∙ not_first))
    ∙ ap (λ rest. answer_of M first (unwrap_or old []) ∷ rest) (saved_changed L M F dialog es others place ds saved there more apart.1 new)
  where
    at_other : (xs : List Dialog) (k : ℕ) → slice_get xs k ≡ Some dialog → All (λ x. (x.node.id.0 == first.node.id.0) ≡ false) xs → (dialog.node.id.0 == first.node.id.0) ≡ false
    at_other [] k is all = absurd cc
    at_other (x ∷ xs) zero is all = (let same : x ≡ dialog = cc in subst (λ (y : Dialog). (y.node.id.0 == first.node.id.0) ≡ false) same (All-head (λ (y : Dialog). (y.node.id.0 == first.node.id.0) ≡ false) x xs all))
    at_other (x ∷ xs) (suc k) is all = at_other xs k is (All-tail (λ (y : Dialog). (y.node.id.0 == first.node.id.0) ≡ false) x xs all)
