-- Texts that are added to a line, one behind the other.
use Rattle.std.proofs.Common.{zero, suc, ◌≡◌, ◌≤◌, ◌++◌, ◌∙◌, ℕ, List, [], ◌∷◌, IfSome, Option, Some, None}
use Rattle.std.proofs.Common.{refl, sym, subst, ap, arith, cond, length, take, map, append_assoc}
use Rattle.std.specs.Fmt.{WritesText}
use Rattle.std.specs.List.{FoldsTo, concat}
use Rattle.std.specs.Str.{chars}
use Rattle.std.proofs.lemmas.List.{length-take, map-append}
use Rattle.std.proofs.lemmas.Str.{IsUtf8-append, IsUtf8-nil, chars-append, chars-nil}
use Rattle.tv_picture.proofs.LengthLemmas.{narrow_decides}
use Rattle.tv_reasons.specs.Reasons.{IsAdded, printed}
use Rattle.tv_reasons.proofs.CutLemmas.{as_it_was, printed_narrow, take_again}

-- nothing was added
added_none : (line : List ℕ) → length line ≤ 132 → IsAdded line [] line
added_none line short = (IsUtf8-nil, as_it_was line short ∙ ap (λ cs. take 132 (line ++ map printed cs)) (sym chars-nil))

-- two texts, one behind the other
added_both : (line xs ys longer longest : List ℕ) → IsAdded line xs longer → IsAdded longer ys longest → IsAdded line (xs ++ ys) longest
added_both line xs ys longer longest first second =
    let p = map printed (chars xs) in
    let q = map printed (chars ys) in
    let both : map printed (chars (xs ++ ys)) ≡ p ++ q = ap (map printed) (chars-append xs ys first.0) ∙ map-append printed (chars xs) (chars ys) in (
      IsUtf8-append xs ys first.0 second.0,
      second.1 ∙ ap (λ l. take 132 (l ++ q)) first.1 ∙ take_again 132 (line ++ p) q
          ∙ ap (take 132) (append_assoc line p q ∙ ap (λ l. line ++ l) (sym both)),
    )

-- a line to which a text was added is no longer than others
short_after : (line bytes longer : List ℕ) → IsAdded line bytes longer → length longer ≤ 132
short_after line bytes longer added =
    let whole = line ++ map printed (chars bytes) in omega (arith, ap length added.1, length-take 132 whole)

-- any number of them
added_parts : (line : List ℕ) (parts : List (List ℕ)) (longer : List ℕ) → length line ≤ 132 → FoldsTo IsAdded line parts longer → IsAdded line (concat parts) longer
added_parts line [] longer short calls = subst (IsAdded line []) calls (added_none line short)
added_parts line (x ∷ xs) longer short calls =
    added_both line x (concat xs) calls.0 longer calls.1 (added_parts calls.0 xs longer (short_after line x calls.0 calls.1) calls.2)

-- ---- a text that was written apart

printed_again : (c : ℕ) → printed (printed c) ≡ printed c
printed_again c = ap (λ b. cond b (printed c) 63) ((narrow_decides (printed c)).1 (printed_narrow c))

printed_twice : (n : ℕ) (cs : List ℕ) → map printed (take n (map printed cs)) ≡ take n (map printed cs)
printed_twice zero cs = refl
printed_twice (suc n) [] = refl
printed_twice (suc n) (c ∷ cs) = rw (printed_again c, printed_twice n cs) refl

-- what is cut at the end may be cut before
take_inner : (n k : ℕ) (xs ys : List ℕ) → n ≤ k → take n (xs ++ take k ys) ≡ take n (xs ++ ys)
take_inner zero k xs ys less = refl
take_inner (suc n) zero xs ys less = absurd (omega (arith, less))
take_inner (suc n) (suc k) [] [] less = refl
take_inner (suc n) (suc k) [] (y ∷ ys) less = ap (λ l. y ∷ l) (take_inner n k [] ys (omega (arith, less)))
take_inner (suc n) (suc k) (x ∷ xs) ys less = ap (λ l. x ∷ l) (take_inner n (suc k) xs ys (omega (arith, less)))

added_apart : (line bytes more longer : List ℕ) → IsAdded [] bytes more → longer ≡ take 132 (line ++ map printed more) → IsAdded line bytes longer
added_apart line bytes more longer apart joined =
    let p = map printed (chars bytes) in (
      apart.0,
      joined ∙ ap (λ l. take 132 (line ++ map printed l)) apart.1 ∙ ap (λ l. take 132 (line ++ l)) (printed_twice 132 (chars bytes))
          ∙ take_inner 132 132 line p (omega arith),
    )

-- what a value writes into an empty line, and is added to another
pub shown_apart : (line more longer : List ℕ) (output : Option (List ℕ)) → WritesText IsAdded [] output more → longer ≡ take 132 (line ++ map printed more) → IfSome output (λ bytes. IsAdded line bytes longer)
shown_apart line more longer None wrote joined = tt
shown_apart line more longer (Some bytes) wrote joined =
    added_apart line bytes more longer (subst (λ bs. IsAdded [] bs more) wrote.whole (added_parts [] wrote.parts more (omega arith) wrote.calls)) joined
