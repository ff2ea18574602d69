-- The characters of a strip, one more at a time.
use Rattle.std.proofs.Common.{◌≡◌, ℕ, zero, suc, ◌+◌, ◌-◌, ◌<◌, ◌≤◌, ◌==◌, ◌||◌, not, Bool, true, false, List, [], ◌∷◌, ◌++◌, flat_map, length, refl, sym, ap, ◌∙◌, arith, eq-eqb, ne_eqb}
use Rattle.std.proofs.lemmas.List.{append-nil}
use Rattle.std.proofs.lemmas.List.Concat.{flat_map-append}
use Rattle.std.proofs.lemmas.List.Folds.{list_any_at}
use Rattle.std.proofs.lemmas.List.FromFn.{map-range_with_len_more, get_or-map-range_with_len}
use Rattle.tv_cells.specs.Glyph.{Glyph}
use Rattle.tv_terminal.specs.Strips.{chars_from}
use Rattle.tv_terminal.specs.Svg.{char_text, has_ink}
use Rattle.tv_terminal.proofs.StripLemmas.{length-chars_from}

pub text-none : (at : ℕ → ℕ → Glyph) (row start : ℕ) → [] ≡ flat_map char_text (chars_from at row start (start - start))
text-none at row start =
    let none : 0 ≡ start - start = omega arith in
    ap (λ (x : ℕ). flat_map char_text (chars_from at row start x)) none

pub text-more : (at : ℕ → ℕ → Glyph) (row start column : ℕ) → start ≤ column
    → flat_map char_text (chars_from at row start (column - start)) ++ char_text (at column row).ch ≡ flat_map char_text (chars_from at row start (column + 1 - start))
text-more at row start column le =
    let before = chars_from at row start (column - start) in
    let one : column + 1 - start ≡ column - start + 1 = omega arith in
    let more = map-range_with_len_more (λ c. (at c row).ch) start (column - start) column (omega arith) in
    sym (
    ap (λ (x : ℕ). flat_map char_text (chars_from at row start x)) one
    ∙ ap (flat_map char_text) more
    ∙ flat_map-append char_text before ((at column row).ch ∷ [])
    ∙ ap (λ (t : List ℕ). flat_map char_text before ++ t) (append-nil (char_text (at column row).ch))
    )

-- ---- spaces

spaces-any : (at : ℕ → ℕ → Glyph) (row a n : ℕ) → ((k : ℕ) → a ≤ k → k < a + n → (at k row).ch ≡ 32) → has_ink (chars_from at row a n) ≡ false
spaces-any at row a zero same = refl
spaces-any at row a (suc n) same =
    let here : (at a row).ch ≡ 32 = same a (omega arith) (omega arith) in
    ap (λ (b : Bool). not b || has_ink (chars_from at row (a + 1) n)) (eq-eqb (at a row).ch 32 here)
    ∙ spaces-any at row (a + 1) n (λ k from to. same k (omega arith) (omega arith))

pub has_ink_none : (at : ℕ → ℕ → Glyph) (row start end : ℕ) → start ≤ end → ((k : ℕ) → start ≤ k → k < end → (at k row).ch ≡ 32)
    → false ≡ has_ink (chars_from at row start (end - start))
has_ink_none at row start end le same = sym (spaces-any at row start (end - start) (λ k from to. same k from (omega arith)))

pub has_ink_some : (at : ℕ → ℕ → Glyph) (row start end k : ℕ) → start ≤ k → k < end → ((at k row).ch ≡ 32 → ⊥)
    → true ≡ has_ink (chars_from at row start (end - start))
has_ink_some at row start end k from to other =
    let all = chars_from at row start (end - start) in
    let inside : k - start < length all = omega (arith, length-chars_from at row start (end - start)) in
    sym (list_any_at (λ ch. not (ch == 32)) all (k - start) 0 inside
    (ap (λ (x : ℕ). not (x == 32)) (get_or-map-range_with_len (λ c. (at c row).ch) start (end - start) (k - start) k 0 (omega arith) (omega arith))
    ∙ ap not (ne_eqb (at k row).ch 32 other)))
