-- Reading a marked text gives just the text that is spelled so.
use Rattle.std.proofs.Common.{◌≡◌, ℕ, ◌+◌, ◌<◌, ◌≤◌, ◌==◌, nat_lt, Bool, true, false, not, ◌&&◌, ◌||◌, cond, List, [], ◌∷◌, ◌++◌, length, take, drop, Option, Some, None, refl, sym, ap, ◌∙◌, add-one, arith, length-take, length-append, drop-cons}
use Rattle.std.specs.Prelude.{position, slice_index}
use Rattle.std.specs.List.{list_any, position_or_len}
use Rattle.std.specs.Char.{is_ascii_alphanumeric}
use Rattle.std.proofs.lemmas.List.{take-append-drop}
use Rattle.std.proofs.lemmas.Bool.{eqb-true}
use Rattle.std.proofs.lemmas.Bool.Decides.{nat_tests}
use Rattle.std.proofs.Math.Seq.{take-append_seam, drop-append-add, get_or-append_seam}
use Rattle.tv_model.specs.declared.kind.MarkedText.{MarkedText}
use Rattle.tv_declarations.specs.Reading.Marks.{end_of_mark, marked_at, marked_from, marked_text_in}
use Rattle.tv_declarations.specs.Spelling.Terms.{is_tilde, with_mark, IsMarked}

abbrev place_of : List ℕ → ℕ
place_of cs = position_or_len is_tilde cs

-- where the first `~` stands
abbrev Before : ℕ → List ℕ → Type 0
Before k cs = (front : List ℕ) × (after : List ℕ) × (cs ≡ front ++ (126 ∷ after)) × (length front ≡ k) × (list_any is_tilde front ≡ false)

found_at : (c : ℕ) (cs : List ℕ) (b : Bool) → c == 126 ≡ b → cond (not b) (1 + place_of cs) 0 < length (c ∷ cs) → (place_of cs < length cs → Before (place_of cs) cs) → Before (cond (not b) (1 + place_of cs) 0) (c ∷ cs)
found_at c cs true e within h = ([], cs, ap (λ x. x ∷ cs) (eqb-true c 126 e), refl, refl)
found_at c cs false e within h =
    let r = h (omega arith) in
    (c ∷ r.0, r.1, ap (λ x. c ∷ x) r.2, omega (arith, r.3), rw e r.4)

found : (cs : List ℕ) → place_of cs < length cs → Before (place_of cs) cs
found [] within = absurd (omega arith)
found (c ∷ cs) within = found_at c cs (c == 126) refl within (found cs)

nowhere_at : (c : ℕ) (cs : List ℕ) (b : Bool) → c == 126 ≡ b → length (c ∷ cs) ≤ cond (not b) (1 + place_of cs) 0 → (length cs ≤ place_of cs → list_any is_tilde cs ≡ false) → (b || list_any is_tilde cs) ≡ false
nowhere_at c cs true e past h = absurd (omega arith)
nowhere_at c cs false e past h = h (omega arith)

nowhere : (cs : List ℕ) → length cs ≤ place_of cs → list_any is_tilde cs ≡ false
nowhere [] past = refl
nowhere (c ∷ cs) past = nowhere_at c cs (c == 126) refl past (nowhere cs)

at_place : (b : Bool) (k n i : ℕ) → cond b (Some k) None ≡ Some i → b ≡ nat_lt k n → (i ≡ k) × (k < n)
at_place true k n i e h = (cc, grind (arith, nat_tests))
at_place false k n i e h = absurd cc

at_none : (b : Bool) (k n : ℕ) → cond b (Some k) None ≡ None → b ≡ nat_lt k n → n ≤ k
at_none true k n e h = absurd cc
at_none false k n e h = grind (arith, nat_tests)

position_found : (cs : List ℕ) (k : ℕ) → position is_tilde cs ≡ Some k → Before k cs
position_found cs k e =
    let h = at_place (nat_lt (place_of cs) (length cs)) (place_of cs) (length cs) k e refl in
    rw h.0 (found cs h.1)

position_nowhere : (cs : List ℕ) → position is_tilde cs ≡ None → list_any is_tilde cs ≡ false
position_nowhere cs e = nowhere cs (at_none (nat_lt (place_of cs) (length cs)) (place_of cs) (length cs) e refl)

none_first : (a b : Bool) → (a || b) ≡ false → (a ≡ false) × (b ≡ false)
none_first true b e = absurd cc
none_first false b e = (refl, e)

-- the other way
place_before : (front after : List ℕ) → list_any is_tilde front ≡ false → place_of (front ++ (126 ∷ after)) ≡ length front
place_before [] after none = refl
place_before (c ∷ front) after none =
    let h = none_first (c == 126) (list_any is_tilde front) none in
    rw h.0 (omega (arith, place_before front after h.1))

place_nowhere : (cs : List ℕ) → list_any is_tilde cs ≡ false → place_of cs ≡ length cs
place_nowhere [] none = refl
place_nowhere (c ∷ cs) none =
    let h = none_first (c == 126) (list_any is_tilde cs) none in
    rw h.0 (omega (arith, place_nowhere cs h.1))

not_below : (n : ℕ) → nat_lt n n ≡ false
not_below n = grind (arith, nat_tests)

position_none : (cs : List ℕ) → list_any is_tilde cs ≡ false → position is_tilde cs ≡ None
position_none cs none = rw (place_nowhere cs none, not_below (length cs)) refl

position_before : (front after : List ℕ) → list_any is_tilde front ≡ false → position is_tilde (front ++ (126 ∷ after)) ≡ Some (length front)
position_before front after none =
    let within : nat_lt (length front) (length (front ++ (126 ∷ after))) ≡ true = grind (arith, nat_tests, length-append) in
    rw (place_before front after none, within) refl

-- ---- the laws

spelled_mark : (front : List ℕ) (c : ℕ) (back : List ℕ) → with_mark (Some (length front)) (front ++ (c ∷ back)) ≡ front ++ (126 ∷ c ∷ 126 ∷ back)
spelled_mark front c back = rw (take-append_seam front (c ∷ back), drop-append-add front (c ∷ back) 1, get_or-append_seam front c back 0) refl

none_within : (front : List ℕ) (c : ℕ) (back : List ℕ) → list_any is_tilde front ≡ false → c == 126 ≡ false → list_any is_tilde back ≡ false → list_any is_tilde (front ++ (c ∷ back)) ≡ false
none_within [] c back a b d = rw b d
none_within (x ∷ front) c back a b d =
    let h = none_first (x == 126) (list_any is_tilde front) a in
    rw h.0 (none_within front c back h.1 b d)

none_around : (front : List ℕ) (c : ℕ) (back : List ℕ) → list_any is_tilde (front ++ (c ∷ back)) ≡ false → (list_any is_tilde front ≡ false) × (list_any is_tilde back ≡ false)
none_around [] c back e = (refl, (none_first (c == 126) (list_any is_tilde back) e).1)
none_around (x ∷ front) c back e =
    let h = none_first (x == 126) (list_any is_tilde (front ++ (c ∷ back))) e in
    let r = none_around front c back h.1 in
    (rw h.0 r.0, r.1)

tilde_or_not : (c : ℕ) (b : Bool) → c == 126 ≡ b → is_ascii_alphanumeric c ≡ true → b ≡ false
tilde_or_not c true e letter = let clash = rw (eqb-true c 126 e) at letter in absurd cc
tilde_or_not c false e letter = refl

not_tilde : (c : ℕ) → is_ascii_alphanumeric c ≡ true → c == 126 ≡ false
not_tilde c letter = tilde_or_not c (c == 126) refl letter

abbrev Reads : List ℕ → MarkedText → Type 0
Reads cs m = (with_mark m.mark m.text ≡ cs) × IsMarked m

mark_parts : (d c : ℕ) (back : List ℕ) (r : ℕ × List ℕ) (second letter : Bool) (more : Bool) → d == 126 ≡ second → is_ascii_alphanumeric c ≡ letter → list_any is_tilde back ≡ more → cond (second && (letter && not more)) (Some (c, back)) None ≡ Some r → (d ≡ 126) × (is_ascii_alphanumeric c ≡ true) × (list_any is_tilde back ≡ false) × (r ≡ (c, back))
mark_parts d c back r true true false ed ec eb e = (eqb-true d 126 ed, ec, eb, (cc))
mark_parts d c back r true true true ed ec eb e = absurd cc
mark_parts d c back r true false more ed ec eb e = absurd cc
mark_parts d c back r false letter more ed ec eb e = absurd cc

mark_end : (after : List ℕ) (r : ℕ × List ℕ) → end_of_mark after ≡ Some r → (after ≡ r.0 ∷ 126 ∷ r.1) × (is_ascii_alphanumeric r.0 ≡ true) × (list_any is_tilde r.1 ≡ false)
mark_end [] r e = absurd cc
mark_end (c ∷ []) r e = absurd cc
mark_end (c ∷ d ∷ back) r e =
    let h = mark_parts d c back r (d == 126) (is_ascii_alphanumeric c) (list_any is_tilde back) refl refl refl e in
    rw h.3 (ap (λ x. c ∷ x ∷ back) h.0, h.1, h.2)

marked_made : (front after : List ℕ) (m : MarkedText) (o : Option (ℕ × List ℕ)) → end_of_mark after ≡ o → list_any is_tilde front ≡ false → marked_at (length front) front o ≡ Some m → Reads (front ++ (126 ∷ after)) m
marked_made front after m None eo none e = absurd cc
marked_made front after m (Some r) eo none e =
    let h = mark_end after r eo in
    let same : m ≡ record { text = front ++ (r.0 ∷ r.1); mark = Some (length front) } = cc in
    let letter : is_ascii_alphanumeric (slice_index (front ++ (r.0 ∷ r.1)) (length front)) ≡ true = rw (get_or-append_seam front r.0 r.1 0) h.1 in
    rw same (
      spelled_mark front r.0 r.1 ∙ ap (λ x. front ++ (126 ∷ x)) (sym h.0),
      (none_within front r.0 r.1 none (not_tilde r.0 h.1) h.2, (omega (arith, length-append front (r.0 ∷ r.1)), letter)),
    )

marked_found : (cs : List ℕ) (m : MarkedText) (o : Option ℕ) → position is_tilde cs ≡ o → marked_from o cs ≡ Some m → Reads cs m
marked_found cs m None eo e =
    let same : m ≡ record { text = cs; mark = None } = cc in
    rw same (refl, (position_nowhere cs eo, tt))
marked_found cs m (Some k) eo e =
    let h = position_found cs k eo in
    let front = h.0 in
    let after = h.1 in
    let e1 : marked_at (length front) (take (length front) (front ++ (126 ∷ after))) (end_of_mark (drop (length front + 1) (front ++ (126 ∷ after)))) ≡ Some m = rw (← h.2, h.3) e in
    let e2 : marked_at (length front) front (end_of_mark after) ≡ Some m = rw (take-append_seam front (126 ∷ after), drop-append-add front (126 ∷ after) 1) at e1 in
    rw h.2 (marked_made front after m (end_of_mark after) refl h.4 e2)

-- what is read is the text that is spelled so
pub marked_read : (cs : List ℕ) (m : MarkedText) → marked_text_in cs ≡ Some m → (with_mark m.mark m.text ≡ cs) × IsMarked m
marked_read cs m e = marked_found cs m (position is_tilde cs) refl e

read_mark : (front : List ℕ) (c : ℕ) (back : List ℕ) → list_any is_tilde front ≡ false → is_ascii_alphanumeric c ≡ true → list_any is_tilde back ≡ false → marked_text_in (front ++ (126 ∷ c ∷ 126 ∷ back)) ≡ Some (record { text = front ++ (c ∷ back); mark = Some (length front) })
read_mark front c back a letter b =
    rw (position_before front (c ∷ 126 ∷ back) a, take-append_seam front (126 ∷ c ∷ 126 ∷ back), drop-append-add front (126 ∷ c ∷ 126 ∷ back) 1, letter, b) refl

text_at : (text : List ℕ) (k : ℕ) → k < length text → text ≡ take k text ++ (slice_index text k ∷ drop (k + 1) text)
text_at text k h = sym (take-append-drop k text) ∙ ap (λ x. take k text ++ x) (rw (add-one, drop-cons text k 0) refl)

abbrev marked : List ℕ → ℕ → MarkedText
marked text place = record { text = text; mark = Some place }

marked_same : (a b : List ℕ) (i j : ℕ) → a ≡ b → i ≡ j → marked a i ≡ marked b j
marked_same a b i j e f = rw (e, f) refl

read_marked_at : (text : List ℕ) (mark : Option ℕ) → IsMarked (record { text = text; mark = mark }) → marked_text_in (with_mark mark text) ≡ Some (record { text = text; mark = mark })
read_marked_at text None is = rw (position_none text is.0) refl
read_marked_at text (Some k) is =
    let front = take k text in
    let c = slice_index text k in
    let back = drop (k + 1) text in
    let place : length front ≡ k = omega (arith, length-take k text, is.1.0) in
    let parts : text ≡ front ++ (c ∷ back) = text_at text k is.1.0 in
    let none = none_around front c back (rw (← parts) is.0) in
    read_mark front c back none.0 is.1.1 none.1 ∙ ap (λ x. Some x) (marked_same (front ++ (c ∷ back)) text (length front) k (sym parts) place)

-- the text that is spelled so is read
pub read_marked : (m : MarkedText) → IsMarked m → marked_text_in (with_mark m.mark m.text) ≡ Some m
read_marked m is = read_marked_at m.text m.mark is
