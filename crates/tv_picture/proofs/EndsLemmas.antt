-- The sets of places at which members end.
use Rattle.std.proofs.Common.{◌≡◌, ◌⊎◌, inl, inr, ◌↔◌, ℕ, zero, suc, ◌+◌, ◌≤◌, Bool, true, false, not, ◌&&◌, List, [], ◌∷◌, ◌++◌, length, arith, refl, ◌∙◌, sym, ap, subst, append_assoc, append-nil, length-append}
use Rattle.std.specs.Prelude.{nat_le}
use Rattle.std.specs.Bool.{Decides}
use Rattle.std.specs.List.{concat}
use Rattle.std.proofs.Math.Logic.{⊎_map}
use Rattle.std.proofs.Math.Utf8.{scalar}
use Rattle.std.specs.Char.{is_ascii_uppercase, is_ascii_lowercase}
use Rattle.std.specs.Int.{is_in_range}
use Rattle.std.proofs.lemmas.Bool.{leb-true, le-leb, false≢true, or_left, or_right, or_cases, and_parts, and_from}
use Rattle.std.proofs.lemmas.Bool.Decides.{Decides-and, Decides-or, Decides-not, Decides-eqb}
use Rattle.std.proofs.lemmas.List.Elements.{All-nil, All-cons, All-append}
use Rattle.std.proofs.lemmas.List.Folds.{concat-append}
use Rattle.tv_picture.specs.declared.code.Mark.{Mark}
use Rattle.tv_picture.specs.declared.code.Mark.TheVariants.{Digit, Letter, Capital, Any, NotLower, Literal, Quoted}
use Rattle.tv_picture.specs.Pattern.{Pattern, empty, one, sequence, either, optional, group, many, times, Allows, IsMember}
use Rattle.tv_picture.specs.Matching.{allows, union, are_alike, after_one, has_end, repeated, places_reached, ends, matches}
use Rattle.tv_picture.proofs.Language.{many_cons, many_parted, Parted, times_zero, times_one, times-add}

-- ---- marks

-- a test of an order
pub le_decides : (m n : ℕ) → Decides (nat_le m n) (m ≤ n)
le_decides m n = (leb-true m n, le-leb m n)

-- and of two
pub range_decides : (low high c : ℕ) → Decides (is_in_range low high c) ((low ≤ c) × (c ≤ high))
range_decides low high c = Decides-and (nat_le low c) (nat_le c high) (le_decides low c) (le_decides c high)

-- the function says whether the mark stands for the character
pub allows_law : (m : Mark) (c : ℕ) → Decides (allows m c) (Allows m c)
allows_law Digit c = range_decides 48 57 c
allows_law Letter c = Decides-or (is_ascii_uppercase c) (is_ascii_lowercase c) (range_decides 65 90 c) (range_decides 97 122 c)
allows_law Capital c = range_decides 65 90 c
allows_law Any c = (λ e. e, λ h. h)
allows_law NotLower c = Decides-and (scalar c) (not (is_ascii_lowercase c)) (λ e. e, λ h. h) (Decides-not (is_ascii_lowercase c) (range_decides 97 122 c))
allows_law (Literal d) c = Decides-eqb c d
allows_law (Quoted d) c = Decides-eqb c d

-- ---- sets of places

-- the rest of the text stands at a place of the set
abbrev pub At : List ℕ → List Bool → List ℕ → Type 0
At t [] v = ⊥
At [] (x ∷ xs) v = (x ≡ true) × (v ≡ [])
At (c ∷ t) (x ∷ xs) v = ((x ≡ true) × (v ≡ c ∷ t)) ⊎ At t xs v

pub union_to : (t : List ℕ) (xs ys : List Bool) (v : List ℕ) → At t xs v ⊎ At t ys v → At t (union xs ys) v
union_to t [] ys v (inl h) = absurd h
union_to t [] ys v (inr h) = h
union_to t (x ∷ xs) [] v (inl h) = h
union_to t (x ∷ xs) [] v (inr h) = absurd h
union_to [] (x ∷ xs) (y ∷ ys) v (inl h) = (or_left x y h.0, h.1)
union_to [] (x ∷ xs) (y ∷ ys) v (inr h) = (or_right x y h.0, h.1)
union_to (c ∷ t) (x ∷ xs) (y ∷ ys) v (inl (inl h)) = inl (or_left x y h.0, h.1)
union_to (c ∷ t) (x ∷ xs) (y ∷ ys) v (inl (inr h)) = inr (union_to t xs ys v (inl h))
union_to (c ∷ t) (x ∷ xs) (y ∷ ys) v (inr (inl h)) = inl (or_right x y h.0, h.1)
union_to (c ∷ t) (x ∷ xs) (y ∷ ys) v (inr (inr h)) = inr (union_to t xs ys v (inr h))

pub union_from : (t : List ℕ) (xs ys : List Bool) (v : List ℕ) → At t (union xs ys) v → At t xs v ⊎ At t ys v
union_from t [] ys v h = inr h
union_from t (x ∷ xs) [] v h = inl h
union_from [] (x ∷ xs) (y ∷ ys) v h = ⊎_map (λ e. (e, h.1)) (λ e. (e, h.1)) (or_cases x y h.0)
union_from (c ∷ t) (x ∷ xs) (y ∷ ys) v (inl h) = ⊎_map (λ e. inl (e, h.1)) (λ e. inl (e, h.1)) (or_cases x y h.0)
union_from (c ∷ t) (x ∷ xs) (y ∷ ys) v (inr h) = ⊎_map (λ a. inr a) (λ a. inr a) (union_from t xs ys v h)

abbrev Passes : Mark → Bool → List ℕ → List Bool → List ℕ → Type 0
Passes m before t xs w = ((before ≡ true) × (w ≡ t)) ⊎ ((c : ℕ) × Allows m c × At t xs (c ∷ w))

after_from : (m : Mark) (before : Bool) (t : List ℕ) (xs : List Bool) (w : List ℕ) → At t (after_one m before t xs) w → Passes m before t xs w
after_from m before [] [] w h = inl h
after_from m before (c ∷ t) [] w (inl h) = inl h
after_from m before (c ∷ t) [] w (inr h) = absurd h
after_from m before [] (x ∷ xs) w h = inl h
after_from m before (c ∷ t) (x ∷ xs) w (inl h) = inl h
after_from m before (c ∷ t) (x ∷ xs) w (inr h) = inr (later (after_from m (x && allows m c) t xs w h))
  where
    later : Passes m (x && allows m c) t xs w → (d : ℕ) × Allows m d × At (c ∷ t) (x ∷ xs) (d ∷ w)
    later (inl (e, f)) = let p = and_parts x (allows m c) e in (c, (allows_law m c).0 p.1, inl (p.0, ap (λ y. c ∷ y) f))
    later (inr (d, a, k)) = (d, a, inr k)

after_to : (m : Mark) (before : Bool) (t : List ℕ) (xs : List Bool) (w : List ℕ) → Passes m before t xs w → At t (after_one m before t xs) w
after_to m before [] [] w (inl h) = h
after_to m before [] [] w (inr h) = absurd h.2
after_to m before (c ∷ t) [] w (inl h) = inl h
after_to m before (c ∷ t) [] w (inr h) = absurd h.2
after_to m before [] (x ∷ xs) w (inl h) = h
after_to m before [] (x ∷ xs) w (inr (d, a, (e, f))) = cc
after_to m before (c ∷ t) (x ∷ xs) w (inl h) = inl h
after_to m before (c ∷ t) (x ∷ xs) w (inr (d, a, inl (e, f))) =
    let head : d ≡ c = cc in
    let rest : w ≡ t = cc in
    inr (after_to m (x && allows m c) t xs w (inl (and_from x (allows m c) e ((allows_law m c).1 (subst (Allows m) head a)), rest)))
after_to m before (c ∷ t) (x ∷ xs) w (inr (d, a, inr h)) = inr (after_to m (x && allows m c) t xs w (inr (d, a, h)))

pub end_from : (t : List ℕ) (xs : List Bool) → has_end t xs ≡ true → At t xs []
end_from t [] e = absurd (false≢true e)
end_from [] (x ∷ xs) e = (e, refl)
end_from (c ∷ t) (x ∷ xs) e = inr (end_from t xs e)

pub end_to : (t : List ℕ) (xs : List Bool) → At t xs [] → has_end t xs ≡ true
end_to t [] h = absurd h
end_to [] (x ∷ xs) h = h.0
end_to (c ∷ t) (x ∷ xs) (inl (e, f)) = cc
end_to (c ∷ t) (x ∷ xs) (inr h) = end_to t xs h

pub start_from : (t v : List ℕ) → At t (true ∷ []) v → v ≡ t
start_from [] v h = h.1
start_from (c ∷ t) v (inl h) = h.1
start_from (c ∷ t) v (inr h) = absurd h

pub start_to : (t : List ℕ) → At t (true ∷ []) t
start_to [] = (refl, refl)
start_to (c ∷ t) = inl (refl, refl)

short : (t : List ℕ) (xs : List Bool) (v : List ℕ) → At t xs v → length v ≤ length t
short t [] v h = absurd h
short [] (x ∷ xs) v (e, f) = omega (arith, ap length f)
short (c ∷ t) (x ∷ xs) v (inl (e, f)) = omega (arith, ap length f)
short (c ∷ t) (x ∷ xs) v (inr h) = omega (arith, short t xs v h)

alike_same : (xs ys : List Bool) → are_alike xs ys ≡ true → xs ≡ ys
alike_same [] [] e = refl
alike_same [] (y ∷ ys) e = absurd (false≢true e)
alike_same (true ∷ xs) [] e = absurd (false≢true e)
alike_same (false ∷ xs) [] e = absurd (false≢true e)
alike_same (true ∷ xs) (true ∷ ys) e = ap (λ s. true ∷ s) (alike_same xs ys e)
alike_same (true ∷ xs) (false ∷ ys) e = absurd (false≢true e)
alike_same (false ∷ xs) (true ∷ ys) e = absurd (false≢true e)
alike_same (false ∷ xs) (false ∷ ys) e = ap (λ s. false ∷ s) (alike_same xs ys e)

-- ---- steps taken often

module _ (f : List Bool → List Bool) where
  abbrev pub plain : ℕ → List Bool → List Bool
  plain zero s = s
  plain (suc n) s = plain n (f s)

  fixed : (n : ℕ) (s : List Bool) → f s ≡ s → plain n s ≡ s
  fixed zero s e = refl
  fixed (suc n) s e = ap (plain n) e ∙ fixed n s e

  pub repeated_plain : (n : ℕ) (s : List Bool) → repeated n f s ≡ plain n s
  repeated_plain zero s = refl
  repeated_plain (suc n) s = of (are_alike (f s) s) refl (repeated_plain n (f s))
    where
      of : (b : Bool) → are_alike (f s) s ≡ b → repeated n f (f s) ≡ plain n (f s) → elim b as (λ x. List Bool) [ true ↦ s | false ↦ repeated n f (f s) ] ≡ plain n (f s)
      of true e h = sym (fixed (suc n) s (alike_same (f s) s e))
      of false e h = h

-- ---- where members end

-- a member of the pattern that begins in the set ends there
abbrev pub Ends : Pattern → List ℕ → List Bool → List ℕ → Type 0
Ends p t s w = (u : List ℕ) × (v : List ℕ) × At t s v × IsMember p u × (v ≡ u ++ w)

pub ends_as : (p q : Pattern) → ((u : List ℕ) → IsMember p u → IsMember q u) → (t : List ℕ) (s : List Bool) (w : List ℕ) → Ends p t s w → Ends q t s w
ends_as p q to t s w (u, v, at, m, e) = (u, v, at, to u m, e)

ends_nothing : (t : List ℕ) (s : List Bool) (w : List ℕ) → At t s w → Ends empty t s w
ends_nothing t s w at = ([], w, at, refl, refl)

ends_empty : (t : List ℕ) (s : List Bool) (w : List ℕ) → Ends empty t s w → At t s w
ends_empty t s w (u, v, at, m, e) = subst (At t s) (e ∙ ap (λ x. x ++ w) m) at

-- a set of the places at which members of the pattern end
abbrev pub IsEnds : Pattern → List ℕ → List Bool → List Bool → Type 0
IsEnds p t s r = (w : List ℕ) → At t r w ↔ Ends p t s w

ends_one : (m : Mark) (t : List ℕ) (s : List Bool) → IsEnds (one m) t s (after_one m false t s)
ends_one m t s w = ((λ h. from (after_from m false t s w h)), (λ (h : Ends (one m) t s w). to h.0 h.1 h.2 h.3.0 h.3.1 h.3.2 h.4))
  where
    from : Passes m false t s w → Ends (one m) t s w
    from (inl h) = absurd (false≢true h.0)
    from (inr (c, a, at)) = (c ∷ [], c ∷ w, at, (c, a, refl), refl)

    to : (u v : List ℕ) → At t s v → (c : ℕ) → Allows m c → u ≡ c ∷ [] → v ≡ u ++ w → At t (after_one m false t s) w
    to u v at c a e f = after_to m false t s w (inr (c, a, subst (At t s) (f ∙ ap (λ x. x ++ w) e) at))

ends_sequence : (a b : Pattern) (t : List ℕ) (s r q : List Bool) → IsEnds a t s r → IsEnds b t r q → IsEnds (sequence a b) t s q
ends_sequence a b t s r q la lb w = ((λ h. from ((lb w).0 h)), (λ (h : Ends (sequence a b) t s w). to h.0 h.1 h.2 h.3.0 h.3.1 h.3.2 h.3.3 h.3.4 h.4))
  where
    joins : (y v : List ℕ) → At t r v → IsMember b y → v ≡ y ++ w → Ends a t s v → Ends (sequence a b) t s w
    joins y v at my e (x, v', at', mx, f) = (x ++ y, v', at', (x, y, mx, my, refl), f ∙ ap (λ z. x ++ z) e ∙ sym (append_assoc x y w))

    from : Ends b t r w → Ends (sequence a b) t s w
    from (y, v, at, my, e) = joins y v at my e ((la v).0 at)

    to : (u v : List ℕ) → At t s v → (x y : List ℕ) → IsMember a x → IsMember b y → u ≡ x ++ y → v ≡ u ++ w → At t q w
    to u v at x y mx my e f = (lb w).1 (y, y ++ w, (la (y ++ w)).1 (x, v, at, mx, f ∙ ap (λ z. z ++ w) e ∙ append_assoc x y w), my, refl)

ends_either : (a b : Pattern) (t : List ℕ) (s r q : List Bool) → IsEnds a t s r → IsEnds b t s q → IsEnds (either a b) t s (union r q)
ends_either a b t s r q la lb w = ((λ h. from (union_from t r q w h)), to)
  where
    from : At t r w ⊎ At t q w → Ends (either a b) t s w
    from (inl h) = ends_as a (either a b) (λ u m. inl m) t s w ((la w).0 h)
    from (inr h) = ends_as b (either a b) (λ u m. inr m) t s w ((lb w).0 h)

    to : Ends (either a b) t s w → At t (union r q) w
    to (u, v, at, inl m, e) = union_to t r q w (inl ((la w).1 (u, v, at, m, e)))
    to (u, v, at, inr m, e) = union_to t r q w (inr ((lb w).1 (u, v, at, m, e)))

ends_optional : (a : Pattern) (t : List ℕ) (s r : List Bool) → IsEnds a t s r → IsEnds (optional a) t s (union s r)
ends_optional a t s r la w = ((λ h. from (union_from t s r w h)), to)
  where
    from : At t s w ⊎ At t r w → Ends (optional a) t s w
    from (inl h) = ends_as empty (optional a) (λ u m. inl m) t s w (ends_nothing t s w h)
    from (inr h) = ends_as a (optional a) (λ u m. inr m) t s w ((la w).0 h)

    to : Ends (optional a) t s w → At t (union s r) w
    to (u, v, at, inl m, e) = union_to t s r w (inl (ends_empty t s w (u, v, at, m, e)))
    to (u, v, at, inr m, e) = union_to t s r w (inr ((la w).1 (u, v, at, m, e)))

pub one_more : (n : ℕ) (a : Pattern) (u : List ℕ) → IsMember (sequence (times 1 a) (times n a)) u ↔ IsMember (times (suc n) a) u
one_more n a u =
    let e : 1 + n ≡ suc n = omega arith in
    ((λ m. subst (λ k. IsMember (times k a) u) e ((times-add 1 n a u).0 m)), (λ m. (times-add 1 n a u).1 (subst (λ k. IsMember (times k a) u) (sym e) m)))

pub one_last : (n : ℕ) (a : Pattern) (u : List ℕ) → IsMember (sequence (times n a) (times 1 a)) u → IsMember (times (suc n) a) u
one_last n a u m = let e : n + 1 ≡ suc n = omega arith in subst (λ k. IsMember (times k a) u) e ((times-add n 1 a u).0 m)

pub many_snoc : (a : Pattern) (u w : List ℕ) → IsMember (many a) u → IsMember a w → IsMember (many a) (u ++ w)
many_snoc a u w (pieces, all, e) m =
    (pieces ++ w ∷ [], All-append (IsMember a) pieces (w ∷ []) all (All-cons (IsMember a) w [] m (All-nil (IsMember a))), ap (λ x. x ++ w) e ∙ ap (λ x. concat pieces ++ x) (sym (append-nil w)) ∙ sym (concat-append pieces (w ∷ [])))

module _ (a : Pattern) (t : List ℕ) (f : List Bool → List Bool) (law : (s : List Bool) → IsEnds a t s (f s)) where
  ends_times : (n : ℕ) (s : List Bool) → IsEnds (times n a) t s (plain f n s)
  ends_times zero s w = (
    (λ h. ends_as empty (times 0 a) (λ u m. (times_zero a u).0 m) t s w (ends_nothing t s w h)),
    (λ (h : Ends (times 0 a) t s w). ends_empty t s w (ends_as (times 0 a) empty (λ u m. (times_zero a u).1 m) t s w h)),
  )
  ends_times (suc n) s w =
      let first : IsEnds (times 1 a) t s (f s) = λ x. ((λ h. ends_as a (times 1 a) (λ u m. (times_one a u).0 m) t s x ((law s x).0 h)), (λ (h : Ends (times 1 a) t s x). (law s x).1 (ends_as (times 1 a) a (λ u m. (times_one a u).1 m) t s x h))) in
      let whole = ends_sequence (times 1 a) (times n a) t s (f s) (plain f n (f s)) first (ends_times n (f s)) w in (
        (λ h. ends_as (sequence (times 1 a) (times n a)) (times (suc n) a) (λ u m. (one_more n a u).0 m) t s w (whole.0 h)),
        (λ (h : Ends (times (suc n) a) t s w). whole.1 (ends_as (times (suc n) a) (sequence (times 1 a) (times n a)) (λ u m. (one_more n a u).1 m) t s w h)),
      )

  abbrev pub grow : List Bool → List Bool
  grow s = union s (f s)

  pub grown_keeps : (n : ℕ) (s : List Bool) (w : List ℕ) → At t s w → At t (plain grow n s) w
  grown_keeps zero s w h = h
  grown_keeps (suc n) s w h = grown_keeps n (grow s) w (union_to t s (f s) w (inl h))

  grown_from : (n : ℕ) (s : List Bool) (w : List ℕ) → At t (plain grow n s) w → Ends (many a) t s w
  grown_from zero s w h = ([], w, h, ([], All-nil (IsMember a), refl), refl)
  grown_from (suc n) s w h = before (grown_from n (grow s) w h)
    where
      piece : (u v : List ℕ) → IsMember (many a) u → v ≡ u ++ w → Ends a t s v → Ends (many a) t s w
      piece u v m e (x, v', at, mx, e') = (x ++ u, v', at, many_cons a x u mx m, e' ∙ ap (λ z. x ++ z) e ∙ sym (append_assoc x u w))

      split : (u v : List ℕ) → IsMember (many a) u → v ≡ u ++ w → At t s v ⊎ At t (f s) v → Ends (many a) t s w
      split u v m e (inl at) = (u, v, at, m, e)
      split u v m e (inr at) = piece u v m e ((law s v).0 at)

      before : Ends (many a) t (grow s) w → Ends (many a) t s w
      before (u, v, at, m, e) = split u v m e (union_from t s (f s) v at)

  grown_to : (n : ℕ) (s : List Bool) (u v w : List ℕ) → length u ≤ n → At t s v → (u ≡ []) ⊎ Parted a u → v ≡ u ++ w → At t (plain grow n s) w
  grown_to n s u v w few at (inl none) e = grown_keeps n s w (subst (At t s) (e ∙ ap (λ x. x ++ w) none) at)
  grown_to zero s u v w few at (inr (x, y, z, my, mz, split)) e = absurd (omega (arith, ap length split))
  grown_to (suc n) s u v w few at (inr (x, y, z, my, mz, split)) e =
      let ended : At t (f s) (z ++ w) = (law s (z ++ w)).1 (x ∷ y, v, at, my, e ∙ ap (λ k. k ++ w) split ∙ ap (λ k. x ∷ k) (append_assoc y z w)) in
      grown_to n (grow s) z (z ++ w) w (omega (arith, few, ap length split, length-append y z)) (union_to t s (f s) (z ++ w) (inr ended)) (many_parted a z mz) refl

  ends_many : (n : ℕ) (s : List Bool) → length t ≤ n → IsEnds (many a) t s (plain grow n s)
  ends_many n s enough w = (grown_from n s w, λ (h : Ends (many a) t s w). grown_to n s h.0 h.1 w (omega (arith, enough, short t s h.1 h.2, ap length h.4, length-append h.0 w)) h.2 (many_parted a h.0 h.3) h.4)

ends_is : (p : Pattern) (t : List ℕ) (s r q : List Bool) → r ≡ q → IsEnds p t s q → IsEnds p t s r
ends_is p t s r q e h = subst (IsEnds p t s) (sym e) h

-- the set of the places at which members end
pub ends_law : (p : Pattern) (t : List ℕ) (s : List Bool) → IsEnds p t s (ends p t s)
ends_law empty t s = λ w. (ends_nothing t s w, ends_empty t s w)
ends_law (one m) t s = ends_one m t s
ends_law (sequence a b) t s = ends_sequence a b t s (ends a t s) (ends b t (ends a t s)) (ends_law a t s) (ends_law b t (ends a t s))
ends_law (either a b) t s = ends_either a b t s (ends a t s) (ends b t s) (ends_law a t s) (ends_law b t s)
ends_law (optional a) t s = ends_optional a t s (ends a t s) (ends_law a t s)
ends_law (group a) t s = ends_law a t s
ends_law (many a) t s = ends_is (many a) t s (places_reached (length t) (ends a t) s) (plain (grow a t (ends a t) (ends_law a t)) (length t) s) (repeated_plain (λ x. union x (ends a t x)) (length t) s) (ends_many a t (ends a t) (ends_law a t) (length t) s (omega arith))
ends_law (times n a) t s = ends_is (times n a) t s (repeated n (ends a t) s) (plain (ends a t) n s) (repeated_plain (ends a t) n s) (ends_times a t (ends a t) (ends_law a t) n s)

-- the function says whether the text is a member
pub matches_law : (p : Pattern) (t : List ℕ) → Decides (matches p t) (IsMember p t)
matches_law p t = ((λ e. from ((ends_law p t (true ∷ []) []).0 (end_from t (ends p t (true ∷ [])) e))), (λ m. end_to t (ends p t (true ∷ [])) ((ends_law p t (true ∷ []) []).1 (t, t, start_to t, m, sym (append-nil t)))))
  where
    from : Ends p t (true ∷ []) [] → IsMember p t
    from (u, v, at, m, e) = subst (IsMember p) (sym (append-nil u) ∙ sym e ∙ start_from t v at) m
