-- The characters that may follow, as the functions give them.
use Rattle.std.proofs.Common.{◌≡◌, ◌⊎◌, inl, inr, ℕ, zero, suc, ◌≤◌, Bool, true, false, List, [], ◌∷◌, ◌++◌, length, arith, refl, ◌∙◌, sym, ap, subst, append_assoc, length-append}
use Rattle.std.proofs.lemmas.Bool.{true≢false}
use Rattle.std.proofs.lemmas.List.Elements.{All-nil}
use Rattle.tv_picture.specs.declared.code.Mark.{Mark}
use Rattle.tv_picture.specs.declared.code.Mark.TheVariants.{Digit, Letter, Capital, Any, NotLower, Literal, Quoted}
use Rattle.tv_picture.specs.declared.row.Next.{Next}
use Rattle.tv_picture.specs.declared.row.Next.TheVariants.{Nothing, Several}
use Rattle.tv_picture.specs.Pattern.{Pattern, empty, one, sequence, either, optional, group, many, times, Allows, IsMember}
use Rattle.tv_picture.specs.Table.{NamesNext, either_next, MayFollow}
use Rattle.tv_picture.specs.Matching.{allows, names_of, union, has_end, places_reached, ends, nexts, follows}
use Rattle.tv_picture.proofs.Language.{Two, two_allowed, Through, follows_next, next_of_left, next_of_right, ThroughMany, follows_many, times_zero, times_one, no_end}
use Rattle.tv_picture.proofs.Gathered.{Names_same, Names_joined}
use Rattle.tv_picture.proofs.EndsLemmas.{At, union_to, union_from, start_from, start_to, end_from, end_to, plain, repeated_plain, Ends, IsEnds, one_more, one_last, many_snoc, grow, grown_keeps, ends_law}

-- the character may follow the text in a member that begins in the set
abbrev pub FollowsIn : Pattern → List ℕ → List Bool → ℕ → Type 0
FollowsIn p t s c = (v : List ℕ) × At t s v × MayFollow p v c

next_two : (m : Mark) → Two m → NamesNext (Allows m) Several
next_two m (x, y, a, b, e) = (x, y, a, b, e)

next_mark : (m : Mark) → NamesNext (Allows m) (names_of m)
next_mark Digit = next_two Digit (two_allowed Digit (λ c e. cc) (λ c e. cc))
next_mark Letter = next_two Letter (two_allowed Letter (λ c e. cc) (λ c e. cc))
next_mark Capital = next_two Capital (two_allowed Capital (λ c e. cc) (λ c e. cc))
next_mark Any = next_two Any (two_allowed Any (λ c e. cc) (λ c e. cc))
next_mark NotLower = next_two NotLower (two_allowed NotLower (λ c e. cc) (λ c e. cc))
next_mark (Literal d) = (refl, λ c e. e)
next_mark (Quoted d) = (refl, λ c e. e)

next_empty : (v : List ℕ) (c : ℕ) → MayFollow empty v c → ⊥
next_empty v c (more, e) = no_end v c more e

-- a mark has one character
next_one : (m : Mark) (v : List ℕ) (c : ℕ) → MayFollow (one m) v c → (v ≡ []) × Allows m c
next_one m [] c (more, (d, allows, e)) = let same : d ≡ c = cc in (refl, subst (Allows m) same allows)
next_one m (x ∷ []) c (more, (d, allows, e)) = absurd (omega (arith, ap length e))
next_one m (x ∷ y ∷ v) c (more, (d, allows, e)) = absurd (omega (arith, ap length e))

follows_as : (p q : Pattern) → ((u : List ℕ) → IsMember p u → IsMember q u) → (v : List ℕ) (c : ℕ) → MayFollow p v c → MayFollow q v c
follows_as p q to v c (more, m) = (more, to ((v ++ c ∷ []) ++ more) m)

in_one : (m : Mark) (t : List ℕ) (s : List Bool) → NamesNext (FollowsIn (one m) t s) (nexts (one m) t s)
in_one m t s = of (has_end t s) refl
  where
    to : has_end t s ≡ true → (c : ℕ) → Allows m c → FollowsIn (one m) t s c
    to e c a = ([], end_from t s e, ([], (c, a, refl)))

    from : (c : ℕ) → FollowsIn (one m) t s c → Allows m c
    from c (v, at, f) = (next_one m v c f).1

    none : has_end t s ≡ false → (c : ℕ) → FollowsIn (one m) t s c → ⊥
    none e c (v, at, f) = true≢false (sym (end_to t s (subst (At t s) (next_one m v c f).0 at)) ∙ e)

    of : (b : Bool) → has_end t s ≡ b → NamesNext (FollowsIn (one m) t s) (elim b as (λ x. Next) [ true ↦ names_of m | false ↦ Nothing ])
    of true e = Names_same (Allows m) (FollowsIn (one m) t s) (names_of m) (to e) from (next_mark m)
    of false e = none e

in_sequence : (a b : Pattern) (t : List ℕ) (s r : List Bool) (m n : Next) → IsEnds a t s r → NamesNext (FollowsIn a t s) m → NamesNext (FollowsIn b t r) n → NamesNext (FollowsIn (sequence a b) t s) (either_next m n)
in_sequence a b t s r m n la fa fb = Names_same (λ c. FollowsIn a t s c ⊎ FollowsIn b t r c) (FollowsIn (sequence a b) t s) (either_next m n) to from (Names_joined (FollowsIn a t s) (FollowsIn b t r) m n fa fb)
  where
    through : (c : ℕ) (v : List ℕ) → MayFollow b v c → Ends a t s v → FollowsIn (sequence a b) t s c
    through c v f (u, w, at, mu, e) = (w, at, next_of_right a b w c (u, v, mu, e, f))

    to : (c : ℕ) → FollowsIn a t s c ⊎ FollowsIn b t r c → FollowsIn (sequence a b) t s c
    to c (inl (v, at, f)) = (v, at, next_of_left a b v c f)
    to c (inr (v, at, f)) = through c v f ((la v).0 at)

    parts : (c : ℕ) (v : List ℕ) → At t s v → MayFollow a v c ⊎ Through a b v c → FollowsIn a t s c ⊎ FollowsIn b t r c
    parts c v at (inl f) = inl (v, at, f)
    parts c v at (inr (u, w, mu, e, f)) = inr (w, (la w).1 (u, v, at, mu, e), f)

    from : (c : ℕ) → FollowsIn (sequence a b) t s c → FollowsIn a t s c ⊎ FollowsIn b t r c
    from c (v, at, f) = parts c v at (follows_next a b v c f)

in_either : (a b : Pattern) (t : List ℕ) (s : List Bool) (m n : Next) → NamesNext (FollowsIn a t s) m → NamesNext (FollowsIn b t s) n → NamesNext (FollowsIn (either a b) t s) (either_next m n)
in_either a b t s m n fa fb = Names_same (λ c. FollowsIn a t s c ⊎ FollowsIn b t s c) (FollowsIn (either a b) t s) (either_next m n) to from (Names_joined (FollowsIn a t s) (FollowsIn b t s) m n fa fb)
  where
    to : (c : ℕ) → FollowsIn a t s c ⊎ FollowsIn b t s c → FollowsIn (either a b) t s c
    to c (inl (v, at, f)) = (v, at, follows_as a (either a b) (λ u m'. inl m') v c f)
    to c (inr (v, at, f)) = (v, at, follows_as b (either a b) (λ u m'. inr m') v c f)

    from : (c : ℕ) → FollowsIn (either a b) t s c → FollowsIn a t s c ⊎ FollowsIn b t s c
    from c (v, at, (more, inl m')) = inl (v, at, (more, m'))
    from c (v, at, (more, inr m')) = inr (v, at, (more, m'))

in_optional : (a : Pattern) (t : List ℕ) (s : List Bool) (n : Next) → NamesNext (FollowsIn a t s) n → NamesNext (FollowsIn (optional a) t s) n
in_optional a t s n fa = Names_same (FollowsIn a t s) (FollowsIn (optional a) t s) n to from fa
  where
    to : (c : ℕ) → FollowsIn a t s c → FollowsIn (optional a) t s c
    to c (v, at, f) = (v, at, follows_as a (optional a) (λ u m. inr m) v c f)

    from : (c : ℕ) → FollowsIn (optional a) t s c → FollowsIn a t s c
    from c (v, at, (more, inl e)) = absurd (no_end v c more e)
    from c (v, at, (more, inr m)) = (v, at, (more, m))

in_many : (a : Pattern) (t : List ℕ) (s r : List Bool) (n : Next) → IsEnds (many a) t s r → NamesNext (FollowsIn a t r) n → NamesNext (FollowsIn (many a) t s) n
in_many a t s r n lr fa = Names_same (FollowsIn a t r) (FollowsIn (many a) t s) n to from fa
  where
    longer : (u : List ℕ) → IsMember (sequence (many a) a) u → IsMember (many a) u
    longer u (x, y, mx, my, e) = subst (IsMember (many a)) (sym e) (many_snoc a x y mx my)

    through : (c : ℕ) (v : List ℕ) → MayFollow a v c → Ends (many a) t s v → FollowsIn (many a) t s c
    through c v f (u, w, at, mu, e) = (w, at, follows_as (sequence (many a) a) (many a) longer w c (next_of_right (many a) a w c (u, v, mu, e, f)))

    to : (c : ℕ) → FollowsIn a t r c → FollowsIn (many a) t s c
    to c (v, at, f) = through c v f ((lr v).0 at)

    after : (u v : List ℕ) → IsMember a u → (w : List ℕ) → w ≡ u ++ v → Ends (many a) t s w → At t r v
    after u v mu w e (x, y, at, mx, f) = (lr v).1 (x ++ u, y, at, many_snoc a x u mx mu, f ∙ ap (λ z. x ++ z) e ∙ sym (append_assoc x u v))

    last : (k : ℕ) (c : ℕ) (v : List ℕ) → length v ≤ k → At t r v → MayFollow a v c ⊎ ThroughMany a v c → FollowsIn a t r c
    last k c v few at (inl f) = (v, at, f)
    last zero c v few at (inr (x, u, w, mu, e, f)) = absurd (omega (arith, few, ap length e))
    last (suc k) c v few at (inr (x, u, w, mu, e, f)) = last k c w (omega (arith, few, ap length e, length-append u w)) (after (x ∷ u) w mu v e ((lr v).0 at)) (follows_many a w c f)

    from : (c : ℕ) → FollowsIn (many a) t s c → FollowsIn a t r c
    from c (v, at, f) = last (length v) c v (omega arith) ((lr v).1 ([], v, at, ([], All-nil (IsMember a), refl), refl)) (follows_many a v c f)

module _ (a : Pattern) (t : List ℕ) (f : List Bool → List Bool) (law : (s : List Bool) → IsEnds a t s (f s)) where
  wider : (n : ℕ) (v : List ℕ) (c : ℕ) → MayFollow (times n a) v c → MayFollow (times (suc n) a) v c
  wider n v c h = follows_as (sequence (times n a) (times 1 a)) (times (suc n) a) (one_last n a) v c (next_of_left (times n a) (times 1 a) v c h)

  later : (n : ℕ) (s : List Bool) (c : ℕ) (v : List ℕ) → MayFollow (times n a) v c → Ends a t s v → FollowsIn (times (suc n) a) t s c
  later n s c v h (u, w, at, mu, e) = (w, at, follows_as (sequence (times 1 a) (times n a)) (times (suc n) a) (λ x m. (one_more n a x).0 m) w c (next_of_right (times 1 a) (times n a) w c (u, v, (times_one a u).0 mu, e, h)))

  times_to : (n : ℕ) (s : List Bool) (c : ℕ) → FollowsIn a t (plain (grow a t f law) n s) c → FollowsIn (times (suc n) a) t s c
  times_to zero s c (v, at, h) = (v, at, follows_as a (times 1 a) (λ u m. (times_one a u).0 m) v c h)
  times_to (suc n) s c h = before (times_to n (grow a t f law s) c h)
    where
      first : (v : List ℕ) → MayFollow (times (suc n) a) v c → At t s v ⊎ At t (f s) v → FollowsIn (times (suc (suc n)) a) t s c
      first v k (inl at) = (v, at, wider (suc n) v c k)
      first v k (inr at) = later (suc n) s c v k ((law s v).0 at)

      before : FollowsIn (times (suc n) a) t (grow a t f law s) c → FollowsIn (times (suc (suc n)) a) t s c
      before (v, at, k) = first v k (union_from t s (f s) v at)

  times_from : (n : ℕ) (s : List Bool) (c : ℕ) → FollowsIn (times (suc n) a) t s c → FollowsIn a t (plain (grow a t f law) n s) c
  times_from zero s c (v, at, h) = (v, at, follows_as (times 1 a) a (λ u m. (times_one a u).1 m) v c h)
  times_from (suc n) s c (v, at, h) = parts (times_from n (grow a t f law s) c) (follows_next (times 1 a) (times (suc n) a) v c (follows_as (times (suc (suc n)) a) (sequence (times 1 a) (times (suc n) a)) (λ u m. (one_more (suc n) a u).1 m) v c h))
    where
      parts : (FollowsIn (times (suc n) a) t (grow a t f law s) c → FollowsIn a t (plain (grow a t f law) (suc n) s) c) → MayFollow (times 1 a) v c ⊎ Through (times 1 a) (times (suc n) a) v c → FollowsIn a t (plain (grow a t f law) (suc n) s) c
      parts go (inl k) = (v, grown_keeps a t f law (suc n) s v at, follows_as (times 1 a) a (λ u m. (times_one a u).1 m) v c k)
      parts go (inr (u, w, mu, e, k)) = go (w, union_to t s (f s) w (inr ((law s w).1 (u, v, at, (times_one a u).1 mu, e))), k)

-- the characters that may follow, from the places of a set
pub nexts_law : (p : Pattern) (t : List ℕ) (s : List Bool) → NamesNext (FollowsIn p t s) (nexts p t s)
nexts_law empty t s = λ c h. next_empty h.0 c h.2
nexts_law (one m) t s = in_one m t s
nexts_law (sequence a b) t s = in_sequence a b t s (ends a t s) (nexts a t s) (nexts b t (ends a t s)) (ends_law a t s) (nexts_law a t s) (nexts_law b t (ends a t s))
nexts_law (either a b) t s = in_either a b t s (nexts a t s) (nexts b t s) (nexts_law a t s) (nexts_law b t s)
nexts_law (optional a) t s = in_optional a t s (nexts a t s) (nexts_law a t s)
nexts_law (group a) t s = nexts_law a t s
nexts_law (many a) t s = in_many a t s (places_reached (length t) (ends a t) s) (nexts a t (places_reached (length t) (ends a t) s)) (ends_law (many a) t s) (nexts_law a t (places_reached (length t) (ends a t) s))
nexts_law (times zero a) t s = λ c h. next_empty h.0 c (follows_as (times 0 a) empty (λ u m. (times_zero a u).1 m) h.0 c h.2)
nexts_law (times (suc n) a) t s =
    let same_set : plain (λ x. union x (ends a t x)) n s ≡ places_reached n (ends a t) s = sym (repeated_plain (λ x. union x (ends a t x)) n s) in
    subst (λ r. NamesNext (FollowsIn a t r) (nexts a t (places_reached n (ends a t) s)) → NamesNext (FollowsIn (times (suc n) a) t s) (nexts a t (places_reached n (ends a t) s))) same_set
    (Names_same (FollowsIn a t (plain (λ x. union x (ends a t x)) n s)) (FollowsIn (times (suc n) a) t s) (nexts a t (places_reached n (ends a t) s)) (times_to a t (ends a t) (ends_law a t) n s) (times_from a t (ends a t) (ends_law a t) n s))
    (nexts_law a t (places_reached n (ends a t) s))

-- the function names the characters that may follow
pub follows_law : (p : Pattern) (t : List ℕ) → NamesNext (MayFollow p t) (follows p t)
follows_law p t = Names_same (FollowsIn p t (true ∷ [])) (MayFollow p t) (follows p t) to from (nexts_law p t (true ∷ []))
  where
    to : (c : ℕ) → FollowsIn p t (true ∷ []) c → MayFollow p t c
    to c (v, at, f) = subst (λ x. MayFollow p x c) (start_from t v at) f

    from : (c : ℕ) → MayFollow p t c → FollowsIn p t (true ∷ []) c
    from c f = (t, start_to t, f)
