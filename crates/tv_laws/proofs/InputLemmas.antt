-- What keys and the mouse make of an input: its text stays viable, and the cursor in it.
use Rattle.std.proofs.Common.{◌≡◌, Bool, true, false, ◌==◌, ◌&&◌, ℕ, zero, suc, ◌+◌, ◌-◌, ◌<◌, ◌≤◌, if◌then◌else◌, List, [], ◌∷◌, ◌++◌, length, take, get_or, refl, sym, ap, subst, All, arith, append_assoc, append-nil, length-append}
use Rattle.std.specs.Prelude.{min, nat_lt, insert, remove, ℤ, pos, ◌<ℤ◌}
use Rattle.std.proofs.lemmas.Bool.{and_parts}
use Rattle.std.proofs.lemmas.Bool.Decides.{nat_tests}
use Rattle.std.proofs.lemmas.List.Elements.{All-head}
use Rattle.tv_cells.specs.Glyph.{IsNarrow}
use Rattle.tv_event.specs.declared.event.Key.{Key}
use Rattle.tv_event.specs.declared.event.Key.TheVariants as keys
use Rattle.tv_picture.specs.Pattern.{Pattern, Begins, IsNextLiteral}
use Rattle.tv_picture.specs.Spelling.{spelled}
use Rattle.tv_picture.proofs.Laws.{next_stands}
use Rattle.tv_valid.specs.declared.domain.Domain.{Domain}
use Rattle.tv_valid.specs.declared.domain.Kind.{Kind}
use Rattle.tv_valid.specs.declared.domain.Kind.TheVariants.{Any, Filter, Range, Picture}
use Rattle.tv_valid.specs.declared.input.DomainSpec.{DomainSpec}
use Rattle.tv_valid.specs.declared.input.DomainSpec.TheVariants as asked
use Rattle.tv_valid.specs.declared.input.InputSpec.{InputSpec}
use Rattle.tv_valid.specs.Domain.{FitsIn, IsCompleted, IsDomain, IsKind, IsNarrowKind, IsTyped, IsViableText, MayBecome}
use Rattle.tv_valid.specs.Deciding.{viable}
use Rattle.tv_valid.specs.Typing.{typed_of}
use Rattle.tv_valid.proofs.AskingLemmas.{domain_law}
use Rattle.tv_valid.proofs.DecidingLemmas.{viable_law}
use Rattle.tv_valid.proofs.Filling.{viable_more}
use Rattle.tv_valid.proofs.TypingLemmas.{typed_law}
use Rattle.tv_model.specs.Kinds.InputLine.{Edit, at_place, backspaced, clicked, ctrl_edit, deleted, entered, opened_up, cursor_after, with_text, domain_texts, becomes, edited, edited_by, edited_in, typed, typed_into}
use Rattle.tv_model.specs.Description.LawfulNodes.{IsNarrowText}
use Rattle.tv_machine.proofs.ListLemmas.{bool_cases, option_cases}

-- ---- lengths

length_remove : (xs : List ℕ) (i : ℕ) → i < length xs → length (remove xs i) + 1 ≡ length xs
length_remove [] i l = absurd (omega arith)
length_remove (x ∷ xs) zero l = omega arith
length_remove (x ∷ xs) (suc i) l =
    let r = length_remove xs i (omega arith) in
    let s : length (remove (x ∷ xs) (suc i)) ≡ suc (length (remove xs i)) = refl in
    omega arith

length_insert : (xs : List ℕ) (i x : ℕ) → length (insert xs i x) ≡ length xs + 1
length_insert [] zero x = omega arith
length_insert [] (suc i) x = omega arith
length_insert (y ∷ xs) zero x = omega arith
length_insert (y ∷ xs) (suc i) x =
    let r = length_insert xs i x in
    let s : length (insert (y ∷ xs) (suc i) x) ≡ suc (length (insert xs i x)) = refl in
    omega arith

-- ---- typing

-- literals that are filled in, one after the other
abbrev Literals : ℤ → Pattern → List ℕ → List ℕ → Type 0
Literals max p text more = (k c : ℕ) → k < length more → IsNextLiteral p (text ++ take k more) (get_or more k c) × (pos (length text + k) <ℤ max)

filled-viable : (max : ℤ) (p : Pattern) (text more : List ℕ) → All IsNarrow (spelled p) → FitsIn max text × Begins p text
    → Literals max p text more
    → FitsIn max (text ++ more) × Begins p (text ++ more)
filled-viable max p text [] narrow so each = subst (λ t. FitsIn max t × Begins p t) (sym (append-nil text)) so
filled-viable max p text (x ∷ more) narrow so each =
    let head = each 0 x (omega arith) in
    let next : IsNextLiteral p text x = subst (λ t. IsNextLiteral p t x) (append-nil text) head.0 in
    let few : length text + 0 ≡ length text = omega arith in
    let under : pos (length text) <ℤ max = subst (λ (n : ℕ). pos n <ℤ max) few head.1 in
    let one = viable_more max p text x narrow so.0 under next (next_stands p text x next) in
    subst (λ t. FitsIn max t × Begins p t) (append_assoc text (x ∷ []) more)
    (filled-viable max p (text ++ x ∷ []) more narrow one
    (λ k c less.
    let later = each (suc k) c (omega arith) in
    let long : length text + suc k ≡ length (text ++ x ∷ []) + k = omega (arith, length-append text (x ∷ [])) in
    (subst (λ t. IsNextLiteral p t (get_or more k c)) (sym (append_assoc text (x ∷ []) (take k more))) later.0, subst (λ (n : ℕ). pos n <ℤ max) long later.1)))

-- what a text is completed to is viable, and no shorter
completed-viable : (d : Domain) (k : Kind) (fills : Bool) (text out : List ℕ) → d.kind ≡ k → IsNarrowKind k → IsViableText d text
    → IsCompleted d k fills text out
    → IsViableText d out × (length text ≤ length out)
completed-viable d (Picture p) true text out is narrow so done =
    let both : FitsIn d.max text × Begins p text = (so.0, subst (λ k. MayBecome k text) is so.1) in
    let all = filled-viable d.max p text done.more narrow both done.literals in
    (subst (IsViableText d) (sym done.grown) (all.0, subst (λ k. MayBecome k (text ++ done.more)) (sym is) all.1), omega (arith, ap length done.grown, length-append text done.more))
completed-viable d (Picture p) false text out is narrow so done = (subst (IsViableText d) (sym done) so, omega (arith, ap length done))
completed-viable d Any fills text out is narrow so done = (subst (IsViableText d) (sym done) so, omega (arith, ap length done))
completed-viable d (Filter set) fills text out is narrow so done = (subst (IsViableText d) (sym done) so, omega (arith, ap length done))
completed-viable d (Range least greatest) fills text out is narrow so done = (subst (IsViableText d) (sym done) so, omega (arith, ap length done))

typed-viable : (d : Domain) (text : List ℕ) (at ch : ℕ) (out : List ℕ) → IsNarrowKind d.kind → IsTyped d text at ch out
    → IsViableText d out × (length text + 1 ≤ length out)
typed-viable d text at ch out narrow (c, chosen, done) =
    let both = completed-viable d d.kind (d.fill && (at == length text)) (insert text at c) out refl narrow chosen.0 done in
    (both.0, omega (arith, both.1, length_insert text at c))

-- ---- edits

-- an edit whose text may stand in an input of the domain, with the cursor in it
abbrev pub IsGoodEdit : Domain → Edit → Type 0
IsGoodEdit d e = IsViableText d e.text × (e.cursor ≤ length e.text)

becomes-good : (d : Domain) (edit e : Edit) → edit.cursor ≤ length edit.text → IsGoodEdit d e → IsGoodEdit d (becomes d edit e)
becomes-good d edit e within good =
    bool_cases (viable d edit.text) (λ b. IsGoodEdit d (if b then edit else e)) (λ is. ((viable_law d edit.text).0 is, within)) (λ is. good)

abbrev HasCursor : Edit → Type 0
HasCursor e = e.cursor ≤ length e.text

backspaced-within : (e : Edit) → HasCursor e → HasCursor (backspaced e)
backspaced-within e within =
    bool_cases (e.cursor == 0) (λ b. HasCursor (if b then at_place 0 e else with_text (remove e.text (e.cursor - 1)) (e.cursor - 1) e))
    (λ is. omega arith)
    (λ is.
    let some : 1 ≤ e.cursor = grind (arith, nat_tests) in
    let long = length_remove e.text (e.cursor - 1) (omega (arith, some, within)) in
    omega (arith, some, within, long))

removed_within : (e : Edit) → HasCursor e → e.cursor < length e.text → HasCursor (with_text (remove e.text e.cursor) e.cursor e)
removed_within e within less = let long = length_remove e.text e.cursor less in omega (arith, less, long)

less_so : (a b : ℕ) → nat_lt a b ≡ true → a < b
less_so a b e = grind (arith, nat_tests)

deleted-within : (e : Edit) → HasCursor e → HasCursor (deleted e)
deleted-within e within =
    bool_cases e.is_whole
    (λ b. HasCursor (if b then with_text [] 0 e else if nat_lt e.cursor (length e.text) then with_text (remove e.text e.cursor) e.cursor e else at_place e.cursor e))
    (λ whole. omega arith)
    (λ part. bool_cases (nat_lt e.cursor (length e.text)) (λ b. HasCursor (if b then with_text (remove e.text e.cursor) e.cursor e else at_place e.cursor e))
    (λ less. removed_within e within (less_so e.cursor (length e.text) less)) (λ more. within))

ctrl-within : (letter : ℕ) (e : Edit) → HasCursor e → HasCursor (ctrl_edit letter e)
ctrl-within letter e within = bool_cases (letter == 89) (λ b. HasCursor (if b then with_text [] 0 e else e)) (λ is. omega arith) (λ is. within)

opened-within : (e : Edit) → HasCursor e → HasCursor (opened_up e)
opened-within e within =
    bool_cases e.is_whole
    (λ b. HasCursor (if b then with_text [] 0 e else if e.overwrites && nat_lt e.cursor (length e.text) then with_text (remove e.text e.cursor) e.cursor e else e))
    (λ whole. omega arith)
    (λ part. bool_cases (e.overwrites && nat_lt e.cursor (length e.text)) (λ b. HasCursor (if b then with_text (remove e.text e.cursor) e.cursor e else e))
    (λ less. removed_within e within (less_so e.cursor (length e.text) (and_parts e.overwrites (nat_lt e.cursor (length e.text)) less).1)) (λ more. within))

placed_within : (e : Edit) (out : List ℕ) → HasCursor e → length e.text + 1 ≤ length out → cursor_after e out ≤ length out
placed_within e out within long =
    bool_cases (e.cursor == length e.text) (λ b. (if b then length out else e.cursor + 1) ≤ length out) (λ is. omega arith) (λ is. omega (arith, within, long))

typed-good : (d : Domain) (ch : ℕ) (e : Edit) → IsNarrowKind d.kind → IsGoodEdit d e → IsGoodEdit d (typed d ch e)
typed-good d ch e narrow good =
    option_cases (typed_of d (opened_up e).text (opened_up e).cursor ch) (λ o. IsGoodEdit d (typed_into e o)) (λ none. good)
    (λ out found.
    let both = typed-viable d (opened_up e).text (opened_up e).cursor ch out narrow ((typed_law d (opened_up e).text (opened_up e).cursor ch out).0 found) in
    (both.0, placed_within (opened_up e) out (opened-within e good.1) both.1))

-- what a key makes of a good edit is good
pub edited-good : (d : Domain) (k : Key) (e : Edit) → IsNarrowKind d.kind → IsGoodEdit d e → IsGoodEdit d (edited d k e)
edited-good d keys.Left e narrow good = (good.0, omega (arith, good.1))
edited-good d keys.Right e narrow good = (good.0, grind arith)
edited-good d keys.Home e narrow good = (good.0, omega arith)
edited-good d keys.End e narrow good = (good.0, omega arith)
edited-good d keys.Insert e narrow good = good
edited-good d keys.Backspace e narrow good = becomes-good d (backspaced e) e (backspaced-within e good.1) good
edited-good d keys.Delete e narrow good = becomes-good d (deleted e) e (deleted-within e good.1) good
edited-good d (keys.Ctrl letter) e narrow good = becomes-good d (ctrl_edit letter e) e (ctrl-within letter e good.1) good
edited-good d (keys.Char ch) e narrow good = typed-good d ch e narrow good
edited-good d _ e narrow good = good

-- a picture that is written in narrow characters fills in no others
narrow-kind : (s : DomainSpec) (k : Kind) → All IsNarrowText (domain_texts s) → IsKind s k → IsNarrowKind k
narrow-kind asked.Any Any all is = tt
narrow-kind (asked.Filter cs) (Filter set) all is = tt
narrow-kind (asked.Range a b) (Range least greatest) all is = tt
narrow-kind (asked.Picture text) (Picture p) all is = subst (All IsNarrow) (sym is.1) (All-head IsNarrowText text [] all)
narrow-kind _ _ all is = absurd is

-- the same of the domain that a declaration asks for
pub edited_by-good : (spec : InputSpec) (d : Domain) (k : Key) (e : Edit) → IsDomain spec d
    → All IsNarrowText (domain_texts spec.domain) → IsGoodEdit d e → IsGoodEdit d (edited_by spec k e)
edited_by-good spec d k e is narrow good =
    subst (λ o. IsGoodEdit d (edited_in o k e)) (sym ((domain_law spec d).1 is)) (edited-good d k e (narrow-kind spec.domain d.kind narrow is.kind) good)

-- and so is what a mouse down makes of it
pub clicked-good : (d : Domain) (first column : ℕ) (e : Edit) → IsGoodEdit d e → IsGoodEdit d (clicked first column e)
clicked-good d first column e good = (good.0, min_within (first + column - 1) (length e.text))
  where
    min_within : (a b : ℕ) → min a b ≤ b
    min_within a b = grind arith

pub entered-good : (d : Domain) (e : Edit) → IsGoodEdit d e → IsGoodEdit d (entered e)
entered-good d e good = (good.0, omega arith)
