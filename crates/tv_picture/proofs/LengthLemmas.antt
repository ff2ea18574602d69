-- The shortest members of a pattern from those of its parts.
use Rattle.std.proofs.Common.{suc, zero, inl, inr, ◌≡◌, ◌≢◌, ◌⊎◌, ◌↔◌, ◌+◌, ◌*◌, ◌≤◌, ℕ, List, [], ◌∷◌, ◌++◌, length, min, arith, refl, sym, ◌∙◌, ap, subst, length-append, replicate, ⊎_elim}
use Rattle.std.specs.List.{concat, All}
use Rattle.std.specs.Prelude.{Option, Some, None, true, false, unwrap_or, if◌then◌else◌, ◌==◌, ◌<◌}
use Rattle.std.specs.Bool.{Decides}
use Rattle.std.proofs.lemmas.Bool.Decides.{Decides-eqb, not_from_Decides}
use Rattle.std.specs.Option.{option_eq}
use Rattle.std.proofs.Math.Dec.{eqb}
use Rattle.std.proofs.lemmas.Bool.{eqb-true, false≢true, cond_both, cases_lt}
use Rattle.std.proofs.lemmas.List.{length-replicate}
use Rattle.std.proofs.lemmas.List.Elements.{All-nil, All-cons, All-head, All-tail, All-append, All-replicate}
use Rattle.tv_cells.specs.Glyph.{IsNarrow, is_narrow}
use Rattle.unicode_width.specs.Width.{char_width}
use Rattle.tv_picture.specs.declared.code.Mark.{Mark}
use Rattle.tv_picture.specs.declared.code.Mark.TheVariants.{Digit, Letter, Capital, Any, NotLower, Literal, Quoted}
use Rattle.tv_picture.specs.Pattern.{Pattern, empty, one, sequence, either, optional, group, many, times, Allows, IsMember, IsNarrowMember, IsShortest}
use Rattle.tv_picture.specs.Matching.{mark_length, shortest_length}
use Rattle.tv_picture.proofs.Language.{sample, sample_allowed}

all_left : (u v : List ℕ) → All IsNarrow (u ++ v) → All IsNarrow u
all_left [] v h = All-nil IsNarrow
all_left (x ∷ u) v h = All-cons IsNarrow x u (All-head IsNarrow x (u ++ v) h) (all_left u v (All-tail IsNarrow x (u ++ v) h))

all_right : (u v : List ℕ) → All IsNarrow (u ++ v) → All IsNarrow v
all_right [] v h = h
all_right (x ∷ u) v h = all_right u v (All-tail IsNarrow x (u ++ v) h)

pub shortest_none : (p : Pattern) → IsMember p [] → IsShortest p 0
shortest_none p m = record { bound = omega arith; least = λ t h. omega arith; reached = λ h. ([], (m, All-nil IsNarrow), refl) }

pub shortest_optional : (a : Pattern) → IsShortest (optional a) 0
shortest_optional a = shortest_none (optional a) (inl refl)

pub shortest_many : (a : Pattern) → IsShortest (many a) 0
shortest_many a = shortest_none (many a) ([], All-nil (IsMember a), refl)

pub shortest_one : (m : Mark) (c : ℕ) → Allows m c → IsNarrow c → IsShortest (one m) 1
shortest_one m c allows narrow = record {
  bound = omega arith;
  least = λ t h. omega (arith, ap length h.0.2);
  reached = λ h. (c ∷ [], ((c, allows, refl), All-cons IsNarrow c [] narrow (All-nil IsNarrow)), refl);
}

sample_narrow : (m : Mark) → ((c : ℕ) → m ≢ Literal c) → ((c : ℕ) → m ≢ Quoted c) → IsNarrow (sample m)
unfolding char_width
sample_narrow Digit l q = refl
sample_narrow Letter l q = refl
sample_narrow Capital l q = refl
sample_narrow Any l q = refl
sample_narrow NotLower l q = refl
sample_narrow (Literal c) l q = absurd (l c refl)
sample_narrow (Quoted c) l q = absurd (q c refl)

pub shortest_class : (m : Mark) → ((c : ℕ) → m ≢ Literal c) → ((c : ℕ) → m ≢ Quoted c) → IsShortest (one m) 1
shortest_class m l q = shortest_one m (sample m) (sample_allowed m) (sample_narrow m l q)

pub shortest_wide : (m : Mark) (d : ℕ) → ((c : ℕ) → Allows m c → c ≡ d) → (IsNarrow d → ⊥) → IsShortest (one m) 121
shortest_wide m d only wide = record {
  bound = omega arith;
  least = λ t h. absurd (wide (subst IsNarrow (only h.0.0 h.0.1) (All-head IsNarrow h.0.0 [] (subst (All IsNarrow) h.0.2 h.1))));
  reached = λ h. absurd (omega arith);
}

pub shortest_same : (p q : Pattern) (n : ℕ) → ((t : List ℕ) → IsMember p t ↔ IsMember q t) → IsShortest p n → IsShortest q n
shortest_same p q n same h = record {
  bound = h.bound;
  least = λ t m. h.least t ((same t).1 m.0, m.1);
  reached = λ few. let r = h.reached few in (r.0, ((same r.0).0 r.1.0, r.1.1), r.2);
}

pub shortest_group : (a : Pattern) (n : ℕ) → IsShortest a n → IsShortest (group a) n
shortest_group a n h = shortest_same a (group a) n (λ t. ((λ m. m), (λ m. m))) h

pub shortest_sequence : (a b : Pattern) (m n : ℕ) → IsShortest a m → IsShortest b n → IsShortest (sequence a b) (min (m + n) 121)
shortest_sequence a b m n ha hb = record { bound = omega arith; least = least; reached = reached }
  where
    least : (t : List ℕ) → IsNarrowMember (sequence a b) t → min (m + n) 121 ≤ length t
    least t ((u, v, mu, mv, e), narrow) =
        let all = subst (All IsNarrow) e narrow in
        let l : m ≤ length u = ha.least u (mu, all_left u v all) in
        let r : n ≤ length v = hb.least v (mv, all_right u v all) in
        omega (arith, ap length e, length-append u v)

    reached : min (m + n) 121 ≤ 120 → (t : List ℕ) × IsNarrowMember (sequence a b) t × (length t ≡ min (m + n) 121)
    reached few =
        let x = ha.reached (omega arith) in
        let y = hb.reached (omega arith) in
        (x.0 ++ y.0, ((x.0, y.0, x.1.0, y.1.0, refl), All-append IsNarrow x.0 y.0 x.1.1 y.1.1), omega (arith, length-append x.0 y.0, x.2, y.2))

pub shortest_either : (a b : Pattern) (m n : ℕ) → IsShortest a m → IsShortest b n → IsShortest (either a b) (min m n)
shortest_either a b m n ha hb = record { bound = (let h = ha.bound in omega arith); least = least; reached = λ few. reached few (order m n) }
  where
    least : (t : List ℕ) → IsNarrowMember (either a b) t → min m n ≤ length t
    least t (inl h, narrow) = let l : m ≤ length t = ha.least t (h, narrow) in omega arith
    least t (inr h, narrow) = let l : n ≤ length t = hb.least t (h, narrow) in omega arith

    order : (i j : ℕ) → (i ≤ j) ⊎ (j ≤ i)
    order zero j = inl (omega arith)
    order (suc i) zero = inr (omega arith)
    order (suc i) (suc j) = ⊎_elim (λ h. inl (omega arith)) (λ h. inr (omega arith)) (order i j)

    reached : min m n ≤ 120 → (m ≤ n) ⊎ (n ≤ m) → (t : List ℕ) × IsNarrowMember (either a b) t × (length t ≡ min m n)
    reached few (inl h) = let x = ha.reached (omega arith) in (x.0, (inl x.1.0, x.1.1), omega (arith, x.2))
    reached few (inr h) = let x = hb.reached (omega arith) in (x.0, (inr x.1.0, x.1.1), omega (arith, x.2))

pieces_least : (a : Pattern) (m : ℕ) → IsShortest a m → (pieces : List (List ℕ)) → All (IsMember a) pieces → All IsNarrow (concat pieces) → length pieces * m ≤ length (concat pieces)
pieces_least a m h [] all narrow = omega arith
pieces_least a m h (p ∷ ps) all narrow =
    let first : m ≤ length p = h.least p (All-head (IsMember a) p ps all, all_left p (concat ps) narrow) in
    let rest : length ps * m ≤ length (concat ps) = pieces_least a m h ps (All-tail (IsMember a) p ps all) (all_right p (concat ps) narrow) in
    grind (arith, length-append p (concat ps))

copies_narrow : (n : ℕ) (t : List ℕ) → All IsNarrow t → All IsNarrow (concat (replicate n t))
copies_narrow zero t h = All-nil IsNarrow
copies_narrow (suc n) t h = All-append IsNarrow t (concat (replicate n t)) h (copies_narrow n t h)

copies_length : (n : ℕ) (t : List ℕ) → length (concat (replicate n t)) ≡ n * length t
copies_length zero t = omega arith
copies_length (suc n) t = let rest = copies_length n t in grind (arith, length-append t (concat (replicate n t)))

pub shortest_times : (a : Pattern) (n m : ℕ) → IsShortest a m → IsShortest (times n a) (min (n * m) 121)
shortest_times a n m h = record { bound = omega arith; least = least; reached = reached n }
  where
    least : (t : List ℕ) → IsNarrowMember (times n a) t → min (n * m) 121 ≤ length t
    least t ((pieces, l, all, e), narrow) =
        let bound : length pieces * m ≤ length (concat pieces) = pieces_least a m h pieces all (subst (All IsNarrow) e narrow) in
        let same : length pieces * m ≡ n * m = ap (λ (k : ℕ). k * m) l in
        omega (arith, ap length e)

    reached : (k : ℕ) → min (k * m) 121 ≤ 120 → (t : List ℕ) × IsNarrowMember (times k a) t × (length t ≡ min (k * m) 121)
    reached zero few = ([], (([], refl, All-nil (IsMember a), refl), All-nil IsNarrow), omega arith)
    reached (suc k) few =
        let within : m ≤ 120 = grind arith in
        let x = h.reached within in
        let long : length (concat (replicate (suc k) x.0)) ≡ suc k * m = copies_length (suc k) x.0 ∙ ap (λ (j : ℕ). suc k * j) x.2 in
        (concat (replicate (suc k) x.0), ((replicate (suc k) x.0, length-replicate (suc k) x.0, All-replicate (IsMember a) (suc k) x.0 x.1.0, refl), copies_narrow (suc k) x.0 x.1.1), omega arith)

pub shortest_literal : (m : Mark) (c : ℕ) → (m ≡ Literal c) ⊎ (m ≡ Quoted c) → IsNarrow c → IsShortest (one m) 1
shortest_literal m c (inl e) narrow = shortest_one m c (subst (λ (x : Mark). Allows x c) (sym e) refl) narrow
shortest_literal m c (inr e) narrow = shortest_one m c (subst (λ (x : Mark). Allows x c) (sym e) refl) narrow

pub equal_one : (o : Option ℕ) → option_eq eqb o (Some 1) ≡ true → o ≡ Some 1
equal_one None e = cc
equal_one (Some n) e = ap Some (eqb-true n 1 e)

-- ---- the length as a function

column_decides : (o : Option ℕ) → Decides (unwrap_or o 0 == 1) (o ≡ Some 1)
column_decides None = (λ e. absurd (false≢true e), λ e. absurd cc)
column_decides (Some n) = (λ e. ap Some ((Decides-eqb n 1).0 e), λ e. let same : n ≡ 1 = cc in (Decides-eqb n 1).1 same)

-- the test of a column says what the property says
pub narrow_decides : (c : ℕ) → Decides (is_narrow c) (IsNarrow c)
narrow_decides c = column_decides (char_width false c)

char_shortest : (m : Mark) (c : ℕ) → (m ≡ Literal c) ⊎ (m ≡ Quoted c) → ((x : ℕ) → Allows m x → x ≡ c) → IsShortest (one m) (if is_narrow c then 1 else 121)
char_shortest m c is only = cond_both (is_narrow c) 1 121 (IsShortest (one m)) (λ e. shortest_literal m c is ((narrow_decides c).0 e)) (λ e. shortest_wide m c only (not_from_Decides (is_narrow c) (narrow_decides c) e))

mark_shortest : (m : Mark) → IsShortest (one m) (mark_length m)
mark_shortest Digit = shortest_class Digit (λ c e. cc) (λ c e. cc)
mark_shortest Letter = shortest_class Letter (λ c e. cc) (λ c e. cc)
mark_shortest Capital = shortest_class Capital (λ c e. cc) (λ c e. cc)
mark_shortest Any = shortest_class Any (λ c e. cc) (λ c e. cc)
mark_shortest NotLower = shortest_class NotLower (λ c e. cc) (λ c e. cc)
mark_shortest (Literal c) = char_shortest (Literal c) c (inl refl) (λ x e. e)
mark_shortest (Quoted c) = char_shortest (Quoted c) c (inr refl) (λ x e. e)

-- the function gives the least length
pub shortest_law : (p : Pattern) → IsShortest p (shortest_length p)
shortest_law empty = shortest_none empty refl
shortest_law (one m) = mark_shortest m
shortest_law (sequence a b) = shortest_sequence a b (shortest_length a) (shortest_length b) (shortest_law a) (shortest_law b)
shortest_law (either a b) = shortest_either a b (shortest_length a) (shortest_length b) (shortest_law a) (shortest_law b)
shortest_law (optional a) = shortest_optional a
shortest_law (group a) = shortest_group a (shortest_length a) (shortest_law a)
shortest_law (many a) = shortest_many a
shortest_law (times n a) = shortest_times a n (shortest_length a) (shortest_law a)

-- two least lengths are one
pub only_shortest : (p : Pattern) (m n : ℕ) → IsShortest p m → IsShortest p n → m ≡ n
only_shortest p m n hm hn = of (cases_lt 120 m) (cases_lt 120 n)
  where
    at_most : (i j : ℕ) → IsShortest p i → IsShortest p j → i ≤ 120 → j ≤ i
    at_most i j hi hj few = let r = hi.reached few in let low = hj.least r.0 r.1 in omega (arith, low, r.2)

    of : (120 < m) ⊎ (m ≤ 120) → (120 < n) ⊎ (n ≤ 120) → m ≡ n
    of (inl a) (inl b) = let x = hm.bound in let y = hn.bound in omega (arith, a, b, x, y)
    of (inl a) (inr b) = let x = at_most n m hn hm b in absurd (omega (arith, a, b, x))
    of (inr a) (inl b) = let x = at_most m n hm hn a in absurd (omega (arith, a, b, x))
    of (inr a) (inr b) = let x = at_most m n hm hn a in let y = at_most n m hn hm b in omega (arith, x, y)
