-- Which texts have a mark.
use Rattle.std.proofs.Common.{◌≡◌, ◌≢◌, ℕ, List, [], ◌∷◌, ◌++◌, Option, Some, None, All, IfNone, IfSome, IsTrue, is_some, true, refl, sym, ◌∙◌}
use Rattle.std.specs.Char.{is_ascii_alphanumeric}
use Rattle.std.specs.Str.{chars}
use denote.Ref.{Bor}
use Rattle.std.proofs.lemmas.List.Elements.{All-head, All-tail}
use Rattle.tv_cells.specs.HotText.{IsUnmarkable}

abbrev pub IsFree : List ℕ → Type 0
IsFree = All (λ ch. ch ≢ 126)

pub if_none : {A : Type 0} {P : Type 0} (r : Option A) → P → IfNone r P
if_none None p = p
if_none (Some x) p = tt

pub not_free : (xs ys : List ℕ) → IsFree (xs ++ 126 ∷ ys) → ⊥
not_free [] ys h = All-head (λ ch. ch ≢ 126) 126 ys h refl
not_free (x ∷ xs) ys h = not_free xs ys (All-tail (λ ch. ch ≢ 126) x (xs ++ 126 ∷ ys) h)

-- the first `~` is one place
pub first_tilde : (xs zs ys ws : List ℕ) → IsFree xs → IsFree zs → xs ++ 126 ∷ ys ≡ zs ++ 126 ∷ ws → (xs ≡ zs) × (ys ≡ ws)
first_tilde [] [] ys ws h k e = (refl, cc)
first_tilde [] (z ∷ zs) ys ws h k e = let same : z ≡ 126 = cc in absurd (All-head (λ ch. ch ≢ 126) z zs k same)
first_tilde (x ∷ xs) [] ys ws h k e = let same : x ≡ 126 = cc in absurd (All-head (λ ch. ch ≢ 126) x xs h same)
first_tilde (x ∷ xs) (z ∷ zs) ys ws h k e =
    let heads : x ≡ z = cc in
    let tails : xs ++ 126 ∷ ys ≡ zs ++ 126 ∷ ws = cc in
    let rest = first_tilde xs zs ys ws (All-tail (λ ch. ch ≢ 126) x xs h) (All-tail (λ ch. ch ≢ 126) z zs k) tails in
    let fronts : xs ≡ zs = rest.0 in
    (cc, rest.1)

-- a text with a `~`, after which no mark stands
pub unmarkable : {text : List ℕ} (before rest : List ℕ) → (text ≡ before ++ 126 ∷ rest) × IsFree before → ((letter : ℕ) (after : List ℕ) → IsTrue (is_ascii_alphanumeric letter) → IsFree after → rest ≡ letter ∷ 126 ∷ after → ⊥) → IsUnmarkable text
unmarkable before rest split none = record {
  not_plain = λ free. not_free before rest (rw split.0 at free);
  not_marked = λ b l a around. none l a around.sound around.free_after (first_tilde before b rest (l ∷ 126 ∷ a) split.1 around.free_before (sym split.0 ∙ around.whole)).1;
}

-- a text that is split has a `~`
pub split_not_free : (text : List ℕ) (r : Option (Bor (List ℕ) × Bor (List ℕ))) → is_some r ≡ true → IfSome r (λ p. (text ≡ chars p.0.now ++ 126 ∷ chars p.1.now) × IsFree (chars p.0.now)) → IsFree text → ⊥
split_not_free text None e h free = absurd cc
split_not_free text (Some p) e h free = not_free (chars p.0.now) (chars p.1.now) (rw h.0 at free)
