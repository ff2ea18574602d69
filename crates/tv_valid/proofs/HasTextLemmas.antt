-- The function that computes says whether any text lies in a domain.
use Rattle.std.proofs.Common.{◌≡◌, ◌⊎◌, inl, inr, ◌↔◌, ℕ, ◌-◌, ◌^◌, ◌≤◌, ◌<◌, min, Bool, true, false, ◌&&◌, ◌||◌, List, [], length, arith, refl, sym, ap, subst}
use Rattle.std.specs.Prelude.{nat_le, nat_lt, ℤ, pos, ◌≤ℤ◌, ◌<ℤ◌, int_le, int_lt, unsigned_abs, Contains, IsTrue}
use Rattle.std.specs.Bool.{Decides}
use Rattle.std.specs.List.{All}
use Rattle.std.proofs.lemmas.Bool.{and_parts, and_from, or_left, or_right, or_cases}
use Rattle.std.proofs.lemmas.Bool.Decides.{Decides-like, Decides-ltb}
use Rattle.std.proofs.lemmas.Int.{ints}
use Rattle.std.proofs.lemmas.List.Elements.{All-nil}
use Rattle.tv_cells.specs.Glyph.{IsNarrow}
use Rattle.tv_picture.specs.Matching.{shortest_length}
use Rattle.tv_picture.proofs.EndsLemmas.{le_decides}
use Rattle.tv_picture.proofs.LengthLemmas.{shortest_law}
use Rattle.tv_valid.specs.declared.domain.Kind.{Kind}
use Rattle.tv_valid.specs.declared.domain.Kind.TheVariants as kinds
use Rattle.tv_valid.specs.declared.domain.Domain.{Domain}
use Rattle.tv_valid.specs.Domain.{HasRoomIn, HasNumber, HasText, InKind, InRange}
use Rattle.tv_valid.specs.Deciding.{has_number, has_number_within, has_own, has_text}
use Rattle.tv_valid.proofs.DecidingLemmas.{int_le_decides, int_lt_decides}
use Rattle.tv_valid.proofs.Numbers.{number_positive, number_negative, number_zero, abs_pos, abs_neg}

-- ---- numbers of a range

range_ordered : (least greatest : ℤ) (text : List ℕ) → InRange least greatest text → least ≤ℤ greatest
range_ordered least greatest text (cs, digits, inl (form, between)) = let low = between.0 in let high = between.1 in omega (arith, ints)
range_ordered least greatest text (cs, digits, inr (form, below, between)) = let low = between.0 in let high = between.1 in omega (arith, ints)

range_long : (least greatest : ℤ) (text : List ℕ) → InRange least greatest text → 1 ≤ length text
range_long least greatest text (cs, digits, inl (inl form, between)) = let some = digits.0 in omega (arith, ap length form)
range_long least greatest text (cs, digits, inl (inr form, between)) = let some = digits.0 in omega (arith, ap length form)
range_long least greatest text (cs, digits, inr (form, below, between)) = let some = digits.0 in omega (arith, ap length form)

-- a test of what is needed, and one that decides then
given_decides : {A Q : Type 0} (x y : Bool) → Decides x A → (A → Decides y Q) → (Q → A) → Decides (x && y) Q
given_decides x y a q back = ((λ e. let h = and_parts x y e in (q (a.0 h.0)).0 h.1), (λ h. let p = back h in and_from x y (a.1 p) ((q p).1 h)))

negated : (x y : ℤ) → int_lt x y ≡ false → y ≤ℤ x
negated x y e = grind (arith, ints)

signed_decides : (least greatest : ℤ) (room : ℕ) → least ≤ℤ greatest → 1 ≤ room → Decides (has_number_within least greatest room) (HasNumber least greatest room)
signed_decides least greatest room order some = first (int_lt (pos 0) least) refl
  where
    above : pos 0 <ℤ least → Decides (nat_lt (unsigned_abs least) (10 ^ room)) (HasNumber least greatest room)
    above up =
        let same = abs_pos least up in
        let law : (unsigned_abs least < 10 ^ room) ↔ HasNumber least greatest room = subst (λ (z : ℤ). (unsigned_abs least < 10 ^ room) ↔ HasNumber z greatest room) (sym same) (number_positive (unsigned_abs least) room greatest (omega (arith, ints)) (omega (arith, ints))) in
        Decides-like (nat_lt (unsigned_abs least) (10 ^ room)) law.0 law.1 (Decides-ltb (unsigned_abs least) (10 ^ room))

    beneath : greatest <ℤ pos 0 → Decides (nat_lt (unsigned_abs greatest) (10 ^ (room - 1))) (HasNumber least greatest room)
    beneath down =
        let same = abs_neg greatest down in
        let law : (unsigned_abs greatest < 10 ^ (room - 1)) ↔ HasNumber least greatest room = subst (λ (z : ℤ). (unsigned_abs greatest < 10 ^ (room - 1)) ↔ HasNumber least z room) (sym same) (number_negative (unsigned_abs greatest) room least (omega (arith, ints)) some (omega (arith, ints))) in
        Decides-like (nat_lt (unsigned_abs greatest) (10 ^ (room - 1))) law.0 law.1 (Decides-ltb (unsigned_abs greatest) (10 ^ (room - 1)))

    second : (b : Bool) → int_lt (pos 0) least ≡ false → int_lt greatest (pos 0) ≡ b → Decides (elim b as (λ x. Bool) [ true ↦ nat_lt (unsigned_abs greatest) (10 ^ (room - 1)) | false ↦ true ]) (HasNumber least greatest room)
    second true e f = beneath ((int_lt_decides greatest (pos 0)).0 f)
    second false e f = ((λ h. number_zero room least greatest some (negated (pos 0) least e) (negated greatest (pos 0) f)), (λ h. refl))

    first : (b : Bool) → int_lt (pos 0) least ≡ b → Decides (elim b as (λ x. Bool) [ true ↦ nat_lt (unsigned_abs least) (10 ^ room) | false ↦ elim (int_lt greatest (pos 0)) as (λ x. Bool) [ true ↦ nat_lt (unsigned_abs greatest) (10 ^ (room - 1)) | false ↦ true ] ]) (HasNumber least greatest room)
    first true e = above ((int_lt_decides (pos 0) least).0 e)
    first false e = second (int_lt greatest (pos 0)) e refl

number_law : (least greatest : ℤ) (room : ℕ) → Decides (has_number least greatest room) (HasNumber least greatest room)
number_law least greatest room =
    given_decides (int_le least greatest) (nat_le 1 room && has_number_within least greatest room) (int_le_decides least greatest)
    (λ order. given_decides (nat_le 1 room) (has_number_within least greatest room) (le_decides 1 room) (λ some. signed_decides least greatest room order some) (λ (h : HasNumber least greatest room). let long = range_long least greatest h.0 h.1 in let short = h.2 in omega arith))
    (λ (h : HasNumber least greatest room). range_ordered least greatest h.0 h.1)

-- ---- texts of a domain

module _ (d : Domain) where
  abbrev room : ℕ
  room = min (unsigned_abs d.max) 120

  -- a text of the kind that fits
  abbrev Own : Type 0
  Own = (text : List ℕ) × HasRoomIn d text × InKind d.kind text

  module _ (some : pos 0 ≤ℤ d.max) where
    fits_nil : HasRoomIn d []
    fits_nil = (some, omega arith, All-nil IsNarrow)

    fits_room : (text : List ℕ) → length text ≤ room → All IsNarrow text → HasRoomIn d text
    fits_room text short narrow = (omega (arith, ints, short), omega (arith, short), narrow)

    room_fits : (text : List ℕ) → HasRoomIn d text → length text ≤ room
    room_fits text (short, few, narrow) = omega (arith, ints, short, few)

    own_decides : (k : Kind) → d.kind ≡ k → Decides (has_own k room) Own
    own_decides kinds.Any e = ((λ h. ([], fits_nil, subst (λ k. InKind k []) (sym e) tt)), (λ h. refl))
    own_decides (kinds.Filter set) e = ((λ h. ([], fits_nil, subst (λ k. InKind k []) (sym e) (All-nil (Contains set)))), (λ h. refl))
    own_decides (kinds.Range least greatest) e =
        Decides-like (has_number least greatest room) (λ (h : HasNumber least greatest room). (h.0, fits_room h.0 h.2 h.3, subst (λ k. InKind k h.0) (sym e) h.1))
        (λ (h : Own). (h.0, subst (λ k. InKind k h.0) e h.2, room_fits h.0 h.1, h.1.2))
        (number_law least greatest room)
    own_decides (kinds.Picture p) e =
        let s = shortest_law p in
        Decides-like (nat_le (shortest_length p) room) (λ (h : shortest_length p ≤ room). let (text, narrow, long) = s.reached (omega (arith, h)) in (text, fits_room text (omega (arith, h, long)) narrow.1, subst (λ k. InKind k text) (sym e) narrow.0))
        (λ (h : Own). let low = s.least h.0 (subst (λ k. InKind k h.0) e h.2, h.1.2) in let short = room_fits h.0 h.1 in omega (arith, low, short))
        (le_decides (shortest_length p) room)

    some_decides : Decides (d.optional || has_own d.kind room) (HasText d)
    some_decides = ((λ e. from (or_cases d.optional (has_own d.kind room) e)), (λ (h : HasText d). to h.0 h.1.0 h.1.1))
      where
        from : (d.optional ≡ true) ⊎ (has_own d.kind room ≡ true) → HasText d
        from (inl e) = ([], (fits_nil, inr (e, refl)))
        from (inr e) = let h = (own_decides d.kind refl).0 e in (h.0, (h.1, inl h.2))

        to : (text : List ℕ) → HasRoomIn d text → InKind d.kind text ⊎ (IsTrue d.optional × (text ≡ [])) → (d.optional || has_own d.kind room) ≡ true
        to text fits (inl h) = or_right d.optional (has_own d.kind room) ((own_decides d.kind refl).1 (text, fits, h))
        to text fits (inr h) = or_left d.optional (has_own d.kind room) h.0

  -- the function says whether a text lies in the domain
  pub has_text_law : Decides (has_text d) (HasText d)
  has_text_law = given_decides (int_le (pos 0) d.max) (d.optional || has_own d.kind room) (int_le_decides (pos 0) d.max) some_decides (λ (h : HasText d). let short = h.1.0.0 in omega (arith, ints, short))
