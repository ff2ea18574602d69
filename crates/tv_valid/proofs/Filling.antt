-- One literal more.
use Rattle.std.proofs.Common.{suc, zero, inl, inr, ◌≡◌, ◌⊎◌, ◌+◌, ◌<◌, ◌≤◌, ℕ, List, [], ◌∷◌, ◌++◌, length, take, get_or, arith, refl, sym, ◌∙◌, ap, subst, length-append}
use Rattle.std.specs.Prelude.{pos, ◌<ℤ◌, ◌≤ℤ◌, ℤ, All, Contains}
use Rattle.std.proofs.lemmas.Int.{ints}
use Rattle.std.proofs.lemmas.List.Elements.{All-contains, All-push}
use Rattle.tv_cells.specs.Glyph.{IsNarrow}
use Rattle.tv_picture.specs.Pattern.{Pattern, Begins, IsNextLiteral}
use Rattle.tv_picture.specs.Spelling.{spelled}
use Rattle.tv_valid.specs.Domain.{FitsIn}

abbrev pub Literals : ℤ → Pattern → List ℕ → List ℕ → Type 0
Literals max p text more = (k : ℕ) (c : ℕ) → k < length more → IsNextLiteral p (text ++ take k more) (get_or more k c) × (pos (length text + k) <ℤ max)

pushed_take : (more : List ℕ) (ch k : ℕ) → k ≤ length more → take k (more ++ ch ∷ []) ≡ take k more
pushed_take more ch zero h = refl
pushed_take [] ch (suc k) h = absurd (omega arith)
pushed_take (x ∷ more) ch (suc k) h = ap (λ t. x ∷ t) (pushed_take more ch k (omega arith))

pushed_get : (more : List ℕ) (ch k c : ℕ) → k < length more → get_or (more ++ ch ∷ []) k c ≡ get_or more k c
pushed_get [] ch k c h = absurd (omega arith)
pushed_get (x ∷ more) ch zero c h = refl
pushed_get (x ∷ more) ch (suc k) c h = pushed_get more ch k c (omega arith)

pushed_last : (more : List ℕ) (ch c : ℕ) → get_or (more ++ ch ∷ []) (length more) c ≡ ch
pushed_last [] ch c = refl
pushed_last (x ∷ more) ch c = pushed_last more ch c

take_whole : (more : List ℕ) → take (length more) more ≡ more
take_whole [] = refl
take_whole (x ∷ more) = ap (λ t. x ∷ t) (take_whole more)

pub literals_more : (max : ℤ) (p : Pattern) (text more : List ℕ) (ch : ℕ) → Literals max p text more → IsNextLiteral p (text ++ more) ch → pos (length text + length more) <ℤ max → Literals max p text (more ++ ch ∷ [])
literals_more max p text more ch all last under k c within = cases (parts k (omega (arith, length-append more (ch ∷ []))))
  where
    parts : (j : ℕ) → j < length more + 1 → (j < length more) ⊎ (j ≡ length more)
    parts j h = grind arith

    cases : (k < length more) ⊎ (k ≡ length more) → IsNextLiteral p (text ++ take k (more ++ ch ∷ [])) (get_or (more ++ ch ∷ []) k c) × (pos (length text + k) <ℤ max)
    cases (inl h) =
        let old = all k c h in (
          subst (λ (x : ℕ). IsNextLiteral p (text ++ take k (more ++ ch ∷ [])) x) (sym (pushed_get more ch k c h))
              (subst (λ t. IsNextLiteral p (text ++ t) (get_or more k c)) (sym (pushed_take more ch k (omega arith))) old.0),
          old.1,
        )
    cases (inr e) = (
      subst (λ (j : ℕ). IsNextLiteral p (text ++ take j (more ++ ch ∷ [])) (get_or (more ++ ch ∷ []) j c)) (sym e)
          (subst (λ (x : ℕ). IsNextLiteral p (text ++ take (length more) (more ++ ch ∷ [])) x) (sym (pushed_last more ch c))
          (subst (λ t. IsNextLiteral p (text ++ t) ch) (sym (pushed_take more ch (length more) (omega arith) ∙ take_whole more)) last)),
      subst (λ (j : ℕ). pos (length text + j) <ℤ max) (sym e) under,
    )

-- ---- what is filled up stays viable

under_next : (max : ℤ) (n m : ℕ) → pos n <ℤ max → m ≡ n + 1 → pos m ≤ℤ max
under_next max n m h e = omega (arith, ints)

pub viable_more : (max : ℤ) (p : Pattern) (text : List ℕ) (ch : ℕ) → All IsNarrow (spelled p) → FitsIn max text → pos (length text) <ℤ max → IsNextLiteral p text ch → Contains (spelled p) ch → FitsIn max (text ++ ch ∷ []) × Begins p (text ++ ch ∷ [])
viable_more max p text ch narrow (few, least, each) under next stands = (
  (under_next max (length text) (length (text ++ ch ∷ [])) under (length-append text (ch ∷ [])), omega (arith, length-append text (ch ∷ []), next.room), All-push IsNarrow text ch each (All-contains IsNarrow (spelled p) ch narrow stands)),
  next.fits,
)
