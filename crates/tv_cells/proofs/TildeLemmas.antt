-- Texts that are split at `~`.
use Rattle.std.proofs.Common.{◌≡◌, ◌≢◌, ℕ, ◌<◌, List, [], ◌∷◌, ◌++◌, length, take, drop, get_or, Option, Some, None, All, IfSome, IfNone, sym, ap, ◌∙◌, arith}
use Rattle.std.specs.Prelude.{◌==◌}
use Rattle.std.specs.Str.{chars, IsUtf8, NoCharPasses, NonePass}
use Rattle.std.proofs.lemmas.Str.{chars_from_encodes, chars-append, chars_past_char, IsUtf8-take, IsUtf8-drop, IsCharBoundary-before_ascii}
use Rattle.std.proofs.lemmas.Str.Pattern.{IsSplitOnceResult, drop_at_char}
use Rattle.std.proofs.lemmas.List.{take-append-drop, length-drop, get_or_default}
use Rattle.std.proofs.lemmas.List.Elements.{All-nil, All-cons}
use Rattle.std.proofs.lemmas.Bool.Decides.{nat_tests}
use denote.Ref.{Bor}

none_free : (cs : List ℕ) → NonePass (λ d. d == 126) cs → All (λ ch. ch ≢ 126) cs
none_free [] h = All-nil (λ ch. ch ≢ 126)
none_free (c ∷ cs) h = All-cons (λ ch. ch ≢ 126) c cs (λ e. absurd (grind (arith, nat_tests, h.0))) (none_free cs h.1)

no_char_free : (bs : List ℕ) → IsUtf8 bs → NoCharPasses (λ d. d == 126) bs → All (λ ch. ch ≢ 126) (chars bs)
no_char_free bs u h = rw (← chars_from_encodes h.0 bs u h.1) (none_free h.0 h.2)

pub split_none : (bs : List ℕ) → IsUtf8 bs → (r : Option (Bor (List ℕ) × Bor (List ℕ))) → IsSplitOnceResult 126 bs r → IfNone r (All (λ ch. ch ≢ 126) (chars bs))
split_none bs u None h = no_char_free bs u h
split_none bs u (Some x) h = tt

pub split_some : (bs : List ℕ) → IsUtf8 bs → (r : Option (Bor (List ℕ) × Bor (List ℕ))) → IsSplitOnceResult 126 bs r → IfSome r (λ p. (chars bs ≡ chars p.0.now ++ 126 ∷ chars p.1.now) × All (λ ch. ch ≢ 126) (chars p.0.now))
split_some bs u None h = tt
split_some bs u (Some x) h =
    let i = h.0 in
    let j = h.1 in
    let found = h.2.1 in
    let tilde : drop i bs ≡ 126 ∷ drop j bs = drop_at_char 126 bs i j found (omega arith) in
    let inside : i < length bs = omega (arith, length-drop i bs, ap length tilde) in
    let cut = IsCharBoundary-before_ascii bs i inside (rw (found.byte (omega arith)) (omega arith)) in
    let before = IsUtf8-take bs i u cut in
    let after = IsUtf8-drop bs i u cut in
    let parts : chars bs ≡ chars (take i bs) ++ chars (drop i bs) = ap chars (sym (take-append-drop i bs)) ∙ chars-append (take i bs) (drop i bs) before in
    (rw (h.3, h.4, ← chars_past_char (drop i bs) (drop j bs) 126 after found.split) parts, rw h.3 (no_char_free (take i bs) before h.2.0))

-- a character of a text, at any default
pub read_at : (xs : List ℕ) (i n x : ℕ) → i ≡ n → (n < length xs) × (x ≡ get_or xs n x) → get_or xs i 0 ≡ x
read_at xs i n x e t = rw e (get_or_default xs n 0 x t.0 ∙ sym t.1)
