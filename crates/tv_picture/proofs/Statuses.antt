-- What the first row of a table says of the whole text.
use Rattle.std.proofs.Common.{inl, inr, ◌≡◌, ◌≢◌, ◌⊎◌, ◌+◌, ◌<◌, ℕ, List, [], ◌∷◌, ◌++◌, length, arith, refl, sym, ◌∙◌, ap, subst, append-nil, append_assoc, length-append}
use Rattle.tv_picture.specs.declared.row.Next.{Next}
use Rattle.tv_picture.specs.declared.row.Next.TheVariants.{Nothing, Only, Several}
use Rattle.tv_picture.specs.declared.row.Row.{Row}
use Rattle.tv_picture.specs.Pattern.{Pattern, IsMember, Begins, IsViable, IsNextLiteral}
use Rattle.tv_picture.specs.Table.{HasPlace, NamesNext, Spans, MayFollow, IsTableRow}

empty_when_long : (u v : List ℕ) (n : ℕ) → n ≡ length (u ++ v) → n ≡ 0 + length u → v ≡ []
empty_when_long u [] n e f = refl
empty_when_long u (x ∷ v) n e f = absurd (omega (arith, length-append u (x ∷ v)))

pub ended : (p : Pattern) (t : List ℕ) (row : Row) → IsTableRow p t 0 row → HasPlace row.ends (length t) → IsMember p t
ended p t row h has = whole ((h.ends (length t)).0 has)
  where
    whole : Spans p t 0 (length t) → IsMember p t
    whole (u, v, m, e, n) =
        let none : v ≡ [] = empty_when_long u v (length t) (ap length e) n in
        subst (IsMember p) (sym (e ∙ ap (λ x. u ++ x) none ∙ append-nil u)) m

pub ends_member : (p : Pattern) (t : List ℕ) (row : Row) → IsTableRow p t 0 row → IsMember p t → HasPlace row.ends (length t)
ends_member p t row h m = (h.ends (length t)).1 (t, [], m, sym (append-nil t), omega arith)

-- what begins a member is one, or a character follows it
pub begins_cases : (p : Pattern) (t : List ℕ) → Begins p t → IsMember p t ⊎ ((c : ℕ) × MayFollow p t c)
begins_cases p t ([], m) = inl (subst (IsMember p) (append-nil t) m)
begins_cases p t (c ∷ more, m) = inr (c, (more, subst (IsMember p) (sym (append_assoc t (c ∷ []) more)) m))

pub follows_begins : (p : Pattern) (t : List ℕ) (c : ℕ) → MayFollow p t c → Begins p t
follows_begins p t c (more, m) = (c ∷ more, subst (IsMember p) (append_assoc t (c ∷ []) more) m)

pub is_error : (p : Pattern) (t : List ℕ) (row : Row) → IsTableRow p t 0 row → (HasPlace row.ends (length t) → ⊥) → row.next ≡ Nothing → Begins p t → ⊥
is_error p t row h unended none b = cases (begins_cases p t b)
  where
    cases : IsMember p t ⊎ ((c : ℕ) × MayFollow p t c) → ⊥
    cases (inl m) = unended (ends_member p t row h m)
    cases (inr f) = subst (NamesNext (MayFollow p t)) none h.next f.0 f.1

some_begin : (p : Pattern) (t : List ℕ) (n : Next) → NamesNext (MayFollow p t) n → n ≢ Nothing → Begins p t
some_begin p t Nothing h some = absurd (some refl)
some_begin p t (Only c) h some = follows_begins p t c h.0
some_begin p t Several h some = follows_begins p t h.0 h.2

pub is_viable : (p : Pattern) (t : List ℕ) (row : Row) → IsTableRow p t 0 row → (HasPlace row.ends (length t) → ⊥) → row.next ≢ Nothing → IsViable p t
is_viable p t row h unended some = (some_begin p t row.next h.next some, λ m. unended (ends_member p t row h m))

pub is_next : (p : Pattern) (t : List ℕ) (row : Row) (c : ℕ) → IsTableRow p t 0 row → (HasPlace row.ends (length t) → ⊥) → length t < 120 → row.next ≡ Only c → IsNextLiteral p t c
is_next p t row c h unended few only = let names = subst (NamesNext (MayFollow p t)) only h.next in record {
  viable = (follows_begins p t c names.0, λ m. unended (ends_member p t row h m));
  room = few;
  fits = names.0;
  only = names.1;
}

no_next_of : (p : Pattern) (t : List ℕ) (n : Next) (c : ℕ) → NamesNext (MayFollow p t) n → ((x : ℕ) → n ≢ Only x) → IsNextLiteral p t c → ⊥
no_next_of p t Nothing c h other l = h c l.fits
no_next_of p t (Only x) c h other l = other x refl
no_next_of p t Several c h other l = h.4 (l.only h.0 h.2 ∙ sym (l.only h.1 h.3))

pub no_next : (p : Pattern) (t : List ℕ) (row : Row) (c : ℕ) → IsTableRow p t 0 row → ((x : ℕ) → row.next ≢ Only x) → IsNextLiteral p t c → ⊥
no_next p t row c h other l = no_next_of p t row.next c h.next other l
