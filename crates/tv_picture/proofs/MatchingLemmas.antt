-- The functions that compute say what the relations between patterns and texts say.
use Rattle.std.proofs.Common.{◌≡◌, ◌⊎◌, inl, inr, ◌↔◌, ℕ, ◌≤◌, ◌<◌, Bool, true, false, ◌||◌, List, [], length, arith, refl, ◌∙◌, sym, ap, subst, append-nil}
use Rattle.std.specs.Prelude.{Option, Some, None, IfSome, IfNone, nat_le}
use Rattle.std.specs.Bool.{Decides}
use Rattle.std.proofs.lemmas.Bool.{leb-true, le-leb, true≢false, false≢true, cases_lt, or_left, or_right, or_cases, false_from_ne_true}
use Rattle.tv_picture.specs.declared.picture.Status.{Status}
use Rattle.tv_picture.specs.declared.picture.Status.TheVariants.{Complete, Viable, Error}
use Rattle.tv_picture.specs.declared.row.Next.{Next}
use Rattle.tv_picture.specs.declared.row.Next.TheVariants.{Nothing, Only, Several}
use Rattle.tv_picture.specs.Pattern.{Pattern, IsMember, Begins, IsNextLiteral, IsStatus}
use Rattle.tv_picture.specs.Table.{NamesNext, MayFollow}
use Rattle.tv_picture.specs.Matching.{matches, follows, is_some_next, begins_some, only_next, next_literal_of, match_status}
use Rattle.tv_picture.proofs.Statuses.{begins_cases, follows_begins}
use Rattle.tv_picture.proofs.EndsLemmas.{matches_law}
use Rattle.tv_picture.proofs.FollowsLemmas.{follows_law}

begins_from : (p : Pattern) (t : List ℕ) (n : Next) → NamesNext (MayFollow p t) n → is_some_next n ≡ true → Begins p t
begins_from p t Nothing h e = absurd (false≢true e)
begins_from p t (Only c) h e = follows_begins p t c h.0
begins_from p t Several h e = follows_begins p t h.0 h.2

begins_to : (p : Pattern) (t : List ℕ) (n : Next) (c : ℕ) → NamesNext (MayFollow p t) n → MayFollow p t c → is_some_next n ≡ true
begins_to p t Nothing c h f = absurd (h c f)
begins_to p t (Only d) c h f = refl
begins_to p t Several c h f = refl

whole_begins : (p : Pattern) (t : List ℕ) → IsMember p t → Begins p t
whole_begins p t m = ([], subst (IsMember p) (sym (append-nil t)) m)

-- the function says whether the text begins a member
pub begins_law : (p : Pattern) (t : List ℕ) → Decides (begins_some p t) (Begins p t)
begins_law p t = ((λ e. from (or_cases (matches p t) (is_some_next (follows p t)) e)), (λ b. to (begins_cases p t b)))
  where
    from : (matches p t ≡ true) ⊎ (is_some_next (follows p t) ≡ true) → Begins p t
    from (inl e) = whole_begins p t ((matches_law p t).0 e)
    from (inr e) = begins_from p t (follows p t) (follows_law p t) e

    to : IsMember p t ⊎ ((c : ℕ) × MayFollow p t c) → begins_some p t ≡ true
    to (inl m) = or_left (matches p t) (is_some_next (follows p t)) ((matches_law p t).1 m)
    to (inr (c, f)) = or_right (matches p t) (is_some_next (follows p t)) (begins_to p t (follows p t) c (follows_law p t) f)

literal_from : (p : Pattern) (t : List ℕ) (n : Next) (c : ℕ) → length t < 120 → (IsMember p t → ⊥) → NamesNext (MayFollow p t) n → only_next n ≡ Some c → IsNextLiteral p t c
literal_from p t Nothing c few unended h e = absurd (cc)
literal_from p t (Only d) c few unended h e =
    let same_char : d ≡ c = cc in
    subst (IsNextLiteral p t) same_char (record { viable = (follows_begins p t d h.0, unended); room = few; fits = h.0; only = h.1 })
literal_from p t Several c few unended h e = absurd (cc)

literal_to : (p : Pattern) (t : List ℕ) (n : Next) (c : ℕ) → NamesNext (MayFollow p t) n → IsNextLiteral p t c → only_next n ≡ Some c
literal_to p t Nothing c h l = absurd (h c l.fits)
literal_to p t (Only d) c h l = ap Some (l.only d h.0)
literal_to p t Several c h l = absurd (h.4 (l.only h.0 h.2 ∙ sym (l.only h.1 h.3)))

-- the function gives the next literal, where there is one
pub next_literal_law : (p : Pattern) (t : List ℕ) (c : ℕ) → (next_literal_of p t ≡ Some c) ↔ IsNextLiteral p t c
next_literal_law p t c = (from (matches p t || nat_le 120 (length t)) refl, to (matches p t || nat_le 120 (length t)) refl)
  where
    from : (b : Bool) → (matches p t || nat_le 120 (length t)) ≡ b → elim b as (λ x. Option ℕ) [ true ↦ None | false ↦ only_next (follows p t) ] ≡ Some c → IsNextLiteral p t c
    from true e h = absurd (cc)
    from false e h = literal_from p t (follows p t) c (few (cases_lt (length t) 120)) (λ m. true≢false (sym (or_left (matches p t) (nat_le 120 (length t)) ((matches_law p t).1 m)) ∙ e)) (follows_law p t) h
      where
        few : (length t < 120) ⊎ (120 ≤ length t) → length t < 120
        few (inl less) = less
        few (inr long) = absurd (true≢false (sym (or_right (matches p t) (nat_le 120 (length t)) (le-leb 120 (length t) long)) ∙ e))

    to : (b : Bool) → (matches p t || nat_le 120 (length t)) ≡ b → IsNextLiteral p t c → elim b as (λ x. Option ℕ) [ true ↦ None | false ↦ only_next (follows p t) ] ≡ Some c
    to false e l = literal_to p t (follows p t) c (follows_law p t) l
    to true e l = absurd (no_such (or_cases (matches p t) (nat_le 120 (length t)) e))
      where
        no_such : (matches p t ≡ true) ⊎ (nat_le 120 (length t) ≡ true) → ⊥
        no_such (inl m) = l.viable.1 ((matches_law p t).0 m)
        no_such (inr long) = let h = leb-true 120 (length t) long in omega (arith, l.room, h)

-- what a call gives as the next literal, the function gives
pub next_literal_is : (p : Pattern) (t : List ℕ) (o : Option ℕ) → IfSome o (IsNextLiteral p t) → IfNone o ((c : ℕ) → IsNextLiteral p t c → ⊥) → o ≡ next_literal_of p t
next_literal_is p t (Some c) some none = sym ((next_literal_law p t c).1 some)
next_literal_is p t None some none = of (next_literal_of p t) refl
  where
    of : (o : Option ℕ) → next_literal_of p t ≡ o → None ≡ o
    of None e = refl
    of (Some c) e = absurd (none c ((next_literal_law p t c).0 e))

-- ---- what a text is to a pattern

-- the function says whether a character may follow
pub next_law : (p : Pattern) (t : List ℕ) → Decides (is_some_next (follows p t)) ((c : ℕ) × MayFollow p t c)
next_law p t = (from (follows p t) (follows_law p t), λ (h : (c : ℕ) × MayFollow p t c). begins_to p t (follows p t) h.0 (follows_law p t) h.1)
  where
    from : (n : Next) → NamesNext (MayFollow p t) n → is_some_next n ≡ true → (c : ℕ) × MayFollow p t c
    from Nothing h e = absurd (false≢true e)
    from (Only c) h e = (c, h.0)
    from Several h e = (h.0, h.2)

-- what the text is, from whether it is a member and whether a character may follow
abbrev by : Bool → Bool → Status
by whole more = elim whole as (λ x. Status) [ true ↦ Complete | false ↦ elim more as (λ x. Status) [ true ↦ Viable | false ↦ Error ] ]

-- what the relation says that the text is, the function says
pub status_law : (p : Pattern) (t : List ℕ) (s : Status) → IsStatus p t s → s ≡ match_status p t
status_law p t Complete m = sym (ap (λ b. by b (is_some_next (follows p t))) ((matches_law p t).1 m))
status_law p t Viable (b, other) = sym (ap (λ b. by b (is_some_next (follows p t))) unended ∙ ap (by false) (more (begins_cases p t b)))
  where
    unended : matches p t ≡ false
    unended = false_from_ne_true (matches p t) (λ e. other ((matches_law p t).0 e))

    more : IsMember p t ⊎ ((c : ℕ) × MayFollow p t c) → is_some_next (follows p t) ≡ true
    more (inl m) = absurd (other m)
    more (inr f) = (next_law p t).1 f
status_law p t Error none = sym (ap (λ b. by b (is_some_next (follows p t))) unended ∙ ap (by false) nothing)
  where
    unended : matches p t ≡ false
    unended = false_from_ne_true (matches p t) (λ e. none (whole_begins p t ((matches_law p t).0 e)))

    nothing : is_some_next (follows p t) ≡ false
    nothing = false_from_ne_true (is_some_next (follows p t)) (λ e. let f = (next_law p t).0 e in none (follows_begins p t f.0 f.1))
