-- What the functions that compute make of a typed text.
use Rattle.std.proofs.Common.{◌≡◌, ◌⊎◌, inl, inr, ◌↔◌, ℕ, zero, suc, ◌+◌, ◌≤◌, Bool, true, false, ◌&&◌, ◌==◌, List, [], ◌∷◌, ◌++◌, length, take, get_or, arith, refl, ◌∙◌, sym, ap, subst, append_assoc, append-nil, length-append}
use Rattle.std.specs.Prelude.{Option, Some, None, IfSome, IfNone, ℤ, pos, ◌<ℤ◌, int_lt, insert}
use Rattle.std.specs.Bool.{Decides}
use Rattle.std.proofs.lemmas.Bool.{true≢false, false≢true, and_parts, and_from}
use Rattle.tv_picture.specs.Pattern.{Pattern, IsNextLiteral}
use Rattle.tv_picture.specs.Matching.{next_literal_of}
use Rattle.tv_picture.proofs.MatchingLemmas.{next_literal_law}
use Rattle.tv_valid.specs.declared.domain.Domain.{Domain}
use Rattle.tv_valid.specs.declared.domain.Kind.{Kind}
use Rattle.tv_valid.specs.declared.domain.Kind.TheVariants.{Any, Filter, Range, Picture}
use Rattle.tv_valid.specs.Domain.{IsViableText, IsPictureKind, other_case, IsChosen, IsFilledTo, IsCompleted, IsTyped}
use Rattle.tv_valid.specs.Deciding.{viable}
use Rattle.tv_valid.specs.Typing.{is_picture_kind, filled, completed, typed_as, typed_of}
use Rattle.tv_valid.proofs.DecidingLemmas.{int_lt_decides, viable_law}
use Rattle.tv_valid.proofs.Filling.{Literals, literals_more}

-- ---- filling up

step_one : (max : ℤ) (p : Pattern) (text : List ℕ) (x : ℕ) (more : List ℕ) → IsNextLiteral p (text ++ more) x → pos (length (text ++ more)) <ℤ max → Literals max p text more → Literals max p text (more ++ x ∷ [])
step_one max p text x more next less all = literals_more max p text more x all next (subst (λ (k : ℕ). pos k <ℤ max) (length-append text more) less)

stop : (max : ℤ) (p : Pattern) (text more : List ℕ) → Literals max p text more → ((c : ℕ) → pos (length (text ++ more)) <ℤ max → IsNextLiteral p (text ++ more) c → ⊥) → IsFilledTo max p text (text ++ more)
stop max p text more all full = record { more = more; grown = refl; literals = all; full = full }

abbrev Enough : ℕ → List ℕ → List ℕ → Type 0
Enough n text more = 120 ≤ n + (length text + length more)

fills : (n : ℕ) (max : ℤ) (p : Pattern) (text more : List ℕ) → Enough n text more → Literals max p text more → IsFilledTo max p text (filled n max p (text ++ more))
fills zero max p text more enough all = stop max p text more all (λ c u next. omega (arith, next.room, length-append text more, enough))
fills (suc n) max p text more enough all =
    room (int_lt (pos (length (text ++ more))) max) refl (λ c. fills n max p text (more ++ c ∷ []))
  where
    on : (o : Option ℕ) → next_literal_of p (text ++ more) ≡ o → int_lt (pos (length (text ++ more))) max ≡ true
        → ((c : ℕ) → Enough n text (more ++ c ∷ []) → Literals max p text (more ++ c ∷ []) → IsFilledTo max p text (filled n max p (text ++ (more ++ c ∷ []))))
        → IsFilledTo max p text (elim o as (λ x. List ℕ) [ None ↦ text ++ more | Some c ↦ filled n max p ((text ++ more) ++ c ∷ []) ])
    on None e less go = stop max p text more all (λ c u next. absurd (no_some (sym e ∙ (next_literal_law p (text ++ more) c).1 next)))
      where
        no_some : {c : ℕ} → None ≡ Some c → ⊥
        no_some h = cc
    on (Some c) e less go =
        subst (λ x. IsFilledTo max p text (filled n max p x)) (sym (append_assoc text more (c ∷ [])))
        (go c (omega (arith, enough, length-append more (c ∷ []))) (step_one max p text c more ((next_literal_law p (text ++ more) c).0 e) ((int_lt_decides (pos (length (text ++ more))) max).0 less) all))

    room : (b : Bool) → int_lt (pos (length (text ++ more))) max ≡ b
        → ((c : ℕ) → Enough n text (more ++ c ∷ []) → Literals max p text (more ++ c ∷ []) → IsFilledTo max p text (filled n max p (text ++ (more ++ c ∷ []))))
        → IsFilledTo max p text (elim b as (λ x. List ℕ) [ true ↦ elim (next_literal_of p (text ++ more)) as (λ x. List ℕ) [ None ↦ text ++ more | Some c ↦ filled n max p ((text ++ more) ++ c ∷ []) ] | false ↦ text ++ more ])
    room true e go = on (next_literal_of p (text ++ more)) refl e go
    room false e go = stop max p text more all (λ c u next. true≢false (sym ((int_lt_decides (pos (length (text ++ more))) max).1 u) ∙ e))

-- the text with the literals that must follow it
pub filled_law : (max : ℤ) (p : Pattern) (text : List ℕ) → IsFilledTo max p text (filled 120 max p text)
filled_law max p text = subst (λ x. IsFilledTo max p text (filled 120 max p x)) (append-nil text) (fills 120 max p text [] (omega arith) (λ k c less. absurd (omega arith)))

completed_law : (d : Domain) (k : Kind) (b : Bool) (text : List ℕ) → IsCompleted d k b text (completed d.max k b text)
completed_law d (Picture p) true text = filled_law d.max p text
completed_law d (Picture p) false text = refl
completed_law d Any b text = refl
completed_law d (Filter set) b text = refl
completed_law d (Range x y) b text = refl

-- ---- there is one such text

head_literal : (max : ℤ) (p : Pattern) (text : List ℕ) (x : ℕ) (more : List ℕ) → Literals max p text (x ∷ more) → IsNextLiteral p text x × (pos (length text) <ℤ max)
head_literal max p text x more all =
    let h = all 0 x (omega arith) in
    let few : length text + 0 ≡ length text = omega arith in
    (subst (λ t. IsNextLiteral p t x) (append-nil text) h.0, subst (λ (k : ℕ). pos k <ℤ max) few h.1)

tail_literals : (max : ℤ) (p : Pattern) (text : List ℕ) (x : ℕ) (more : List ℕ) → Literals max p text (x ∷ more) → Literals max p (text ++ x ∷ []) more
tail_literals max p text x more all k c less =
    let h = all (suc k) c (omega arith) in
    let few : length text + suc k ≡ length (text ++ x ∷ []) + k = omega (arith, length-append text (x ∷ [])) in
    (subst (λ t. IsNextLiteral p t (get_or more k c)) (sym (append_assoc text (x ∷ []) (take k more))) h.0, subst (λ (n : ℕ). pos n <ℤ max) few h.1)

abbrev Full : ℤ → Pattern → List ℕ → Type 0
Full max p out = (c : ℕ) → pos (length out) <ℤ max → IsNextLiteral p out c → ⊥

full_nil : (max : ℤ) (p : Pattern) (text : List ℕ) (x : ℕ) (more : List ℕ) → Full max p (text ++ []) → Literals max p text (x ∷ more) → ⊥
full_nil max p text x more full all =
    let h = head_literal max p text x more all in
    subst (λ t. (c : ℕ) → pos (length t) <ℤ max → IsNextLiteral p t c → ⊥) (append-nil text) full x h.1 h.0

same_more : (max : ℤ) (p : Pattern) (text xs ys : List ℕ) → Literals max p text xs → Literals max p text ys → Full max p (text ++ xs) → Full max p (text ++ ys) → xs ≡ ys
same_more max p text [] [] f g fx fy = refl
same_more max p text [] (y ∷ ys) f g fx fy = absurd (full_nil max p text y ys fx g)
same_more max p text (x ∷ xs) [] f g fx fy = absurd (full_nil max p text x xs fy f)
same_more max p text (x ∷ xs) (y ∷ ys) f g fx fy =
    let same : y ≡ x = (head_literal max p text x xs f).0.only y (head_literal max p text y ys g).0.fits in
    let g' : Literals max p text (x ∷ ys) = subst (λ c. Literals max p text (c ∷ ys)) same g in
    let fy' : Full max p (text ++ x ∷ ys) = subst (λ c. Full max p (text ++ c ∷ ys)) same fy in
    let rest : xs ≡ ys = same_more max p (text ++ x ∷ []) xs ys (tail_literals max p text x xs f) (tail_literals max p text x ys g')
    (subst (Full max p) (sym (append_assoc text (x ∷ []) xs)) fx) (subst (Full max p) (sym (append_assoc text (x ∷ []) ys)) fy') in
    ap (λ t. x ∷ t) rest ∙ ap (λ c. c ∷ ys) (sym same)

only_filled : (max : ℤ) (p : Pattern) (text a b : List ℕ) → IsFilledTo max p text a → IsFilledTo max p text b → a ≡ b
only_filled max p text a b f g =
    f.grown ∙ ap (λ m. text ++ m) (same_more max p text f.more g.more f.literals g.literals (subst (Full max p) f.grown f.full) (subst (Full max p) g.grown g.full)) ∙ sym g.grown

only_completed : (d : Domain) (k : Kind) (b : Bool) (text x y : List ℕ) → IsCompleted d k b text x → IsCompleted d k b text y → x ≡ y
only_completed d (Picture p) true text x y f g = only_filled d.max p text x y f g
only_completed d (Picture p) false text x y f g = f ∙ sym g
only_completed d Any b text x y f g = f ∙ sym g
only_completed d (Filter set) b text x y f g = f ∙ sym g
only_completed d (Range l m) b text x y f g = f ∙ sym g

only_chosen : (d : Domain) (text : List ℕ) (at ch x y : ℕ) → IsChosen d text at ch x → IsChosen d text at ch y → x ≡ y
only_chosen d text at ch x y (v, inl e) (w, inl f) = e ∙ sym f
only_chosen d text at ch x y (v, inl e) (w, inr (k, f, n)) = absurd (n (subst (λ c. IsViableText d (insert text at c)) e v))
only_chosen d text at ch x y (v, inr (k, e, n)) (w, inl f) = absurd (n (subst (λ c. IsViableText d (insert text at c)) f w))
only_chosen d text at ch x y (v, inr (k, e, n)) (w, inr (l, f, m)) = e ∙ sym f

-- two texts that the same typing gives are one
pub only_typed : (d : Domain) (text : List ℕ) (at ch : ℕ) (a b : List ℕ) → IsTyped d text at ch a → IsTyped d text at ch b → a ≡ b
only_typed d text at ch a b (x, cx, fx) (y, cy, fy) =
    only_completed d d.kind (d.fill && (at == length text)) (insert text at y) a b
    (subst (λ c. IsCompleted d d.kind (d.fill && (at == length text)) (insert text at c) a) (only_chosen d text at ch x y cx cy) fx) fy

-- ---- typing as a function

picture_decides : (k : Kind) → Decides (is_picture_kind k) (IsPictureKind k)
picture_decides (Picture p) = (λ e. tt, λ h. refl)
picture_decides Any = (λ e. absurd (false≢true e), λ (h : IsPictureKind Any). absurd h)
picture_decides (Filter set) = (λ e. absurd (false≢true e), λ (h : IsPictureKind (Filter set)). absurd h)
picture_decides (Range x y) = (λ e. absurd (false≢true e), λ (h : IsPictureKind (Range x y)). absurd h)

typed_by : (d : Domain) (text : List ℕ) (at ch c : ℕ) → IsChosen d text at ch c → IsTyped d text at ch (typed_as d text at c)
typed_by d text at ch c chosen = (c, chosen, completed_law d d.kind (d.fill && (at == length text)) (insert text at c))

-- what the function gives is so, and where it gives none there is none
abbrev IsAnswer : Domain → List ℕ → ℕ → ℕ → Option (List ℕ) → Type 0
IsAnswer d text at ch None = (out : List ℕ) → IsTyped d text at ch out → ⊥
IsAnswer d text at ch (Some out) = IsTyped d text at ch out

answers : (d : Domain) (text : List ℕ) (at ch : ℕ) → IsAnswer d text at ch (typed_of d text at ch)
answers d text at ch = first (viable d (insert text at ch)) refl
  where
    gone : viable d (insert text at ch) ≡ false → (is_picture_kind d.kind && viable d (insert text at (other_case ch))) ≡ false → (c : ℕ) → IsViableText d (insert text at c) → (c ≡ ch) ⊎ (IsPictureKind d.kind × (c ≡ other_case ch) × ¬ (IsViableText d (insert text at ch))) → ⊥
    gone e f c v (inl is) = true≢false (sym ((viable_law d (insert text at ch)).1 (subst (λ x. IsViableText d (insert text at x)) is v)) ∙ e)
    gone e f c v (inr (k, is, n)) = true≢false (sym (and_from (is_picture_kind d.kind) (viable d (insert text at (other_case ch))) ((picture_decides d.kind).1 k) ((viable_law d (insert text at (other_case ch))).1 (subst (λ x. IsViableText d (insert text at x)) is v))) ∙ f)

    refused : viable d (insert text at ch) ≡ false → IsViableText d (insert text at ch) → ⊥
    refused e v = true≢false (sym ((viable_law d (insert text at ch)).1 v) ∙ e)

    second : (b : Bool) → viable d (insert text at ch) ≡ false → (is_picture_kind d.kind && viable d (insert text at (other_case ch))) ≡ b → IsAnswer d text at ch (elim b as (λ x. Option (List ℕ)) [ true ↦ Some (typed_as d text at (other_case ch)) | false ↦ None ])
    second true e f =
        let h = and_parts (is_picture_kind d.kind) (viable d (insert text at (other_case ch))) f in
        typed_by d text at ch (other_case ch) ((viable_law d (insert text at (other_case ch))).0 h.1, inr ((picture_decides d.kind).0 h.0, refl, refused e))
    second false e f = λ out (h : IsTyped d text at ch out). gone e f h.0 h.1.0 h.1.1

    first : (b : Bool) → viable d (insert text at ch) ≡ b → IsAnswer d text at ch (elim b as (λ x. Option (List ℕ)) [ true ↦ Some (typed_as d text at ch) | false ↦ elim (is_picture_kind d.kind && viable d (insert text at (other_case ch))) as (λ x. Option (List ℕ)) [ true ↦ Some (typed_as d text at (other_case ch)) | false ↦ None ] ])
    first true e = typed_by d text at ch ch ((viable_law d (insert text at ch)).0 e, inl refl)
    first false e = second (is_picture_kind d.kind && viable d (insert text at (other_case ch))) e refl

-- the function gives what typing makes of the text
pub typed_law : (d : Domain) (text : List ℕ) (at ch : ℕ) (out : List ℕ) → (typed_of d text at ch ≡ Some out) ↔ IsTyped d text at ch out
typed_law d text at ch out = ((λ e. subst (IsAnswer d text at ch) e (answers d text at ch)), (λ h. back h (typed_of d text at ch) (answers d text at ch)))
  where
    back : IsTyped d text at ch out → (o : Option (List ℕ)) → IsAnswer d text at ch o → o ≡ Some out
    back h None a = absurd (a out h)
    back h (Some x) a = ap Some (only_typed d text at ch x out a h)

-- what a call gives of typing, the function gives
pub typed_is : (d : Domain) (text : List ℕ) (at ch : ℕ) (o : Option (List ℕ)) → IfSome o (IsTyped d text at ch) → IfNone o ((c : ℕ) → IsChosen d text at ch c → ⊥) → o ≡ typed_of d text at ch
typed_is d text at ch (Some out) some none = sym ((typed_law d text at ch out).1 some)
typed_is d text at ch None some none = of (typed_of d text at ch) refl
  where
    of : (o : Option (List ℕ)) → typed_of d text at ch ≡ o → None ≡ o
    of None e = refl
    of (Some out) e = let h = (typed_law d text at ch out).0 e in absurd (none h.0 h.1)
