-- Entries that are put one after the other.
use Rattle.std.proofs.Common.{◌≡◌, ℕ, zero, suc, ◌==◌, ◌||◌, Bool, false, List, [], ◌∷◌, ◌++◌, cond, map, filter, refl, sym, ap, ◌∙◌, append_assoc, All}
use Rattle.std.specs.Prelude.{if◌then◌else◌}
use Rattle.std.proofs.lemmas.Bool.{or_from, or_parts}
use Rattle.std.proofs.lemmas.List.{append-nil}
use Rattle.std.proofs.lemmas.List.Elements.{All-append, All-cons, All-head, All-nil, All-tail, All-weaker}
use Rattle.tv_machine.proofs.ListLemmas.{AreApart, bool_cases, id-swap}
use Rattle.tv_machine.specs.Dialog.Rules.{is_among}
use Rattle.tv_model.specs.declared.desc.Dialog.{Dialog}
use Rattle.tv_model.specs.declared.node.Id.{Id}
use Rattle.tv_model.specs.declared.record.Entry.{Entry}
use Rattle.tv_model.specs.Log.Record.{Entries, with_value}
use Rattle.tv_answers.specs.declared.answers.Answer.{Answer}
use Rattle.tv_answers.specs.declared.answers.Answers.{Answers}
use Rattle.tv_answers.specs.ReadLogs.{changed_at, no_answer, with_entry}

abbrev pub entry_id : Entry → Id
entry_id entry = entry.id

-- entries with the values of others, one after the other
abbrev pub put_all : Entries → Entries → Entries
put_all [] done = done
put_all (e ∷ es) done = put_all es (with_value done e.id e.value)

put_new : (e : Entry) (done : Entries) → All (λ x. (e.id.0 == x.id.0) ≡ false) done → with_value done e.id e.value ≡ done ++ e ∷ []
put_new e [] other = refl
put_new e (x ∷ done) other =
    ap (λ b. if b then record { id = x.id; value = e.value } ∷ done else x ∷ with_value done e.id e.value)
    (id-swap x.id e.id ∙ All-head (λ (y : Entry). (e.id.0 == y.id.0) ≡ false) x done other)
    ∙ ap (λ rest. x ∷ rest) (put_new e done (All-tail (λ (y : Entry). (e.id.0 == y.id.0) ≡ false) x done other))

-- where no id stands twice, they come to stand one behind the other
put_behind : (es done : Entries) → All (λ x. is_among (map entry_id es) x.id ≡ false) done → AreApart (map entry_id es) → put_all es done ≡ done ++ es
put_behind [] done apart own = sym (append-nil done)
put_behind (e ∷ es) done apart own =
    let first : All (λ x. (e.id.0 == x.id.0) ≡ false) done =
    All-weaker (λ (x : Entry). ((e.id.0 == x.id.0) || is_among (map entry_id es) x.id) ≡ false) (λ x. (e.id.0 == x.id.0) ≡ false) (λ x out. (or_parts (e.id.0 == x.id.0) (is_among (map entry_id es) x.id) out).0) done apart in
    let rest : All (λ x. is_among (map entry_id es) x.id ≡ false) done =
    All-weaker (λ (x : Entry). ((e.id.0 == x.id.0) || is_among (map entry_id es) x.id) ≡ false) (λ x. is_among (map entry_id es) x.id ≡ false) (λ x out. (or_parts (e.id.0 == x.id.0) (is_among (map entry_id es) x.id) out).1) done apart in
    ap (put_all es) (put_new e done first)
    ∙ put_behind es (done ++ e ∷ []) (All-append (λ x. is_among (map entry_id es) x.id ≡ false) done (e ∷ []) rest (All-cons (λ x. is_among (map entry_id es) x.id ≡ false) e [] own.0 (All-nil (λ x. is_among (map entry_id es) x.id ≡ false)))) own.1
    ∙ append_assoc done (e ∷ []) es

pub put_first : (es : Entries) → AreApart (map entry_id es) → put_all es [] ≡ es
put_first es own = put_behind es [] (All-nil (λ x. is_among (map entry_id es) x.id ≡ false)) own

-- some of what is apart is apart
kept_among : {A : Type 0} (id : A → Id) (p : A → Bool) (xs : List A) (i : Id) → is_among (map id xs) i ≡ false → is_among (map id (filter p xs)) i ≡ false
kept_among id p [] i out = refl
kept_among id p (x ∷ xs) i out =
    let parts = or_parts ((id x).0 == i.0) (is_among (map id xs) i) out in
    let more = kept_among id p xs i parts.1 in
    bool_cases (p x) (λ b. is_among (map id (cond b (x ∷ filter p xs) (filter p xs))) i ≡ false)
    (λ is. or_from ((id x).0 == i.0) (is_among (map id (filter p xs)) i) parts.0 more) (λ is. more)

pub kept_apart : {A : Type 0} (id : A → Id) (p : A → Bool) (xs : List A) → AreApart (map id xs) → AreApart (map id (filter p xs))
kept_apart id p [] own = tt
kept_apart id p (x ∷ xs) own =
    bool_cases (p x) (λ b. AreApart (map id (cond b (x ∷ filter p xs) (filter p xs)))) (λ is. (kept_among id p xs (id x) own.0, kept_apart id p xs own.1)) (λ is. kept_apart id p xs own.1)

-- ---- answers

pub changed_twice : (place : ℕ) (f g : Answer → Answer) (xs : List Answer) → changed_at place f (changed_at place g xs) ≡ changed_at place (λ x. f (g x)) xs
changed_twice place f g [] = refl
changed_twice zero f g (x ∷ xs) = refl
changed_twice (suc place) f g (x ∷ xs) = ap (λ rest. x ∷ rest) (changed_twice place f g xs)

-- what was unanswered, changed in two ways that come to the same
pub changed_same : (place : ℕ) (f g : Answer → Answer) (ds : List Dialog) → f no_answer ≡ g no_answer → changed_at place f (map (λ dialog. no_answer) ds) ≡ changed_at place g (map (λ dialog. no_answer) ds)
changed_same place f g [] same = refl
changed_same zero f g (d ∷ ds) same = ap (λ x. x ∷ map (λ (dialog : Dialog). no_answer) ds) same
changed_same (suc place) f g (d ∷ ds) same = ap (λ rest. no_answer ∷ rest) (changed_same place f g ds same)

-- the answers with entries of the dialog at a place, one after the other
abbrev pub entered : ℕ → Entries → Answers → Answers
entered place [] a = a
entered place (e ∷ es) a = entered place es (with_entry place e.id e.value a)

abbrev pub with_all : Entries → Answer → Answer
with_all es answer = record answer { entries = put_all es answer.entries }

changed_not : (place : ℕ) (xs : List Answer) → xs ≡ changed_at place (λ x. x) xs
changed_not place [] = refl
changed_not zero (x ∷ xs) = refl
changed_not (suc place) (x ∷ xs) = ap (λ rest. x ∷ rest) (changed_not place xs)

pub entered_at : (place : ℕ) (es : Entries) (a : Answers) → entered place es a ≡ record a { dialogs = changed_at place (with_all es) a.dialogs }
entered_at place [] a = ap (λ dialogs. record a { dialogs = dialogs }) (changed_not place a.dialogs)
entered_at place (e ∷ es) a =
    entered_at place es (with_entry place e.id e.value a)
    ∙ ap (λ dialogs. record a { dialogs = dialogs }) (changed_twice place (with_all es) (λ answer. record answer { entries = with_value answer.entries e.id e.value }) a.dialogs)
