-- The functions that compute say what a domain asks of a text.
use Rattle.std.proofs.Common.{◌≡◌, ◌⊎◌, inl, inr, ℕ, zero, suc, Bool, true, ◌&&◌, ◌||◌, ◌==◌, List, [], ◌∷◌, length, arith, refl, sym, ap, subst}
use Rattle.std.specs.Prelude.{nat_le, ℤ, pos, neg_ℤ, ◌≤ℤ◌, ◌<ℤ◌, int_le, int_lt, Contains}
use Rattle.std.specs.Bool.{Decides}
use Rattle.std.specs.Char.{char_set_contains, is_ascii_digit}
use Rattle.std.specs.List.{All, list_all}
use Rattle.std.proofs.lemmas.Bool.{false≢true}
use Rattle.std.proofs.lemmas.Bool.Decides.{Decides-and, Decides-or, Decides-eqb, Decides-like, Decides-by_and}
use Rattle.std.proofs.lemmas.Int.{ints}
use Rattle.std.proofs.lemmas.List.{nil_from_length}
use Rattle.tv_cells.specs.Glyph.{IsNarrow, is_narrow}
use Rattle.tv_picture.specs.Pattern.{IsDigit}
use Rattle.tv_picture.proofs.EndsLemmas.{le_decides, range_decides, matches_law}
pub use Rattle.tv_picture.proofs.LengthLemmas.{narrow_decides}
use Rattle.tv_picture.proofs.MatchingLemmas.{begins_law}
use Rattle.tv_valid.specs.declared.domain.Kind.{Kind}
use Rattle.tv_valid.specs.declared.domain.Kind.TheVariants.{Any, Filter, Range, Picture}
use Rattle.tv_valid.specs.declared.domain.Domain.{Domain}
use Rattle.tv_valid.specs.Domain.{number_of_digits, FitsIn, InDomain, InKind, InRange, IsFromTo, IsDigits, IsRangeChar, IsViableText, MayBecome}
use Rattle.tv_valid.specs.Deciding.{are_digits, are_digits_within, are_negative_within, fits_in, in_domain, in_kind, in_range, is_after, is_from_to, is_range_char, may_become, viable}

-- ---- tests of parts

-- a test of an order of whole numbers
pub int_le_decides : (x y : ℤ) → Decides (int_le x y) (x ≤ℤ y)
int_le_decides x y = (says, holds)
  where
    says : int_le x y ≡ true → x ≤ℤ y
    says e = grind (arith, ints)

    holds : x ≤ℤ y → int_le x y ≡ true
    holds h = grind (arith, ints)

-- and of one that leaves equality out
pub int_lt_decides : (x y : ℤ) → Decides (int_lt x y) (x <ℤ y)
int_lt_decides x y = (says, holds)
  where
    says : int_lt x y ≡ true → x <ℤ y
    says e = grind (arith, ints)

    holds : x <ℤ y → int_lt x y ≡ true
    holds h = grind (arith, ints)

all_decides : (test : ℕ → Bool) (P : ℕ → Type 0) → ((c : ℕ) → Decides (test c) (P c)) → (cs : List ℕ) → Decides (list_all test cs) (All P cs)
all_decides test P law cs = Decides-by_and test P (list_all test) law refl (λ _ _. refl) cs

contains_to : (set : List ℕ) (y c : ℕ) → (y ≡ c) ⊎ Contains set c → Contains (y ∷ set) c
contains_to set y c (inl e) = (0, omega arith, e)
contains_to set y c (inr (k, less, is)) = (suc k, omega arith, is)

contains_from : (set : List ℕ) (y c : ℕ) → Contains (y ∷ set) c → (y ≡ c) ⊎ Contains set c
contains_from set y c (zero, less, is) = inl is
contains_from set y c (suc k, less, is) = inr (k, omega arith, is)

contains_none : (c : ℕ) → Contains [] c → ⊥
contains_none c (k, less, is) = omega arith

contains_decides : (set : List ℕ) (c : ℕ) → Decides (char_set_contains set c) (Contains set c)
contains_decides [] c = (λ e. absurd (false≢true e), λ h. absurd (contains_none c h))
contains_decides (y ∷ set) c = Decides-like ((y == c) || char_set_contains set c) (contains_to set y c) (contains_from set y c) (Decides-or (y == c) (char_set_contains set c) (Decides-eqb y c) (contains_decides set c))

digit_decides : (c : ℕ) → Decides (is_ascii_digit c) (IsDigit c)
digit_decides c = range_decides 48 57 c

digits_decide : (cs : List ℕ) → Decides (are_digits cs) (IsDigits cs)
digits_decide cs = Decides-and (nat_le 1 (length cs)) (list_all is_ascii_digit cs) (le_decides 1 (length cs)) (all_decides is_ascii_digit IsDigit digit_decides cs)

between_decides : (least z greatest : ℤ) → Decides (is_from_to least z greatest) (IsFromTo least z greatest)
between_decides least z greatest = Decides-and (int_le least z) (int_le z greatest) (int_le_decides least z) (int_le_decides z greatest)

-- ---- numbers of a range

module _ (least greatest : ℤ) where
  abbrev Unsigned : List ℕ → Type 0
  Unsigned cs = IsDigits cs × IsFromTo least (pos (number_of_digits cs)) greatest

  abbrev Negative : List ℕ → Type 0
  Negative cs = IsDigits cs × ((least <ℤ pos 0) × IsFromTo least (neg_ℤ (pos (number_of_digits cs))) greatest)

  unsigned_decides : (cs : List ℕ) → Decides (are_digits_within least greatest cs) (Unsigned cs)
  unsigned_decides cs = Decides-and (are_digits cs) (is_from_to least (pos (number_of_digits cs)) greatest) (digits_decide cs) (between_decides least (pos (number_of_digits cs)) greatest)

  negative_decides : (cs : List ℕ) → Decides (are_negative_within least greatest cs) (Negative cs)
  negative_decides cs =
      Decides-and (are_digits cs) (int_lt least (pos 0) && is_from_to least (neg_ℤ (pos (number_of_digits cs))) greatest) (digits_decide cs)
      (Decides-and (int_lt least (pos 0)) (is_from_to least (neg_ℤ (pos (number_of_digits cs))) greatest) (int_lt_decides least (pos 0)) (between_decides least (neg_ℤ (pos (number_of_digits cs))) greatest))

abbrev After : ℕ → (List ℕ → Type 0) → List ℕ → Type 0
After sign P text = (cs : List ℕ) × P cs × (text ≡ sign ∷ cs)

after_decides : (sign : ℕ) (right : List ℕ → Bool) (P : List ℕ → Type 0) → ((cs : List ℕ) → Decides (right cs) (P cs)) → (text : List ℕ) → Decides (is_after sign right text) (After sign P text)
after_decides sign right P law [] = (λ e. absurd (false≢true e), λ (h : After sign P []). none h.0 h.2)
  where
    none : (cs : List ℕ) → [] ≡ sign ∷ cs → is_after sign right [] ≡ true
    none cs e = absurd (cc)
after_decides sign right P law (c ∷ cs) = Decides-like ((c == sign) && right cs) (λ (h : (c ≡ sign) × P cs). (cs, h.1, ap (λ x. x ∷ cs) h.0)) (λ (h : After sign P (c ∷ cs)). from h.0 h.1 h.2) (Decides-and (c == sign) (right cs) (Decides-eqb c sign) (law cs))
  where
    from : (ds : List ℕ) → P ds → c ∷ cs ≡ sign ∷ ds → (c ≡ sign) × P cs
    from ds p e =
        let head : c ≡ sign = cc in
        let rest : ds ≡ cs = cc in
        (head, subst P rest p)

range_law : (least greatest : ℤ) (text : List ℕ) → Decides (in_range least greatest text) (InRange least greatest text)
range_law least greatest text =
    Decides-like (in_range least greatest text) to from
    (Decides-or (are_digits_within least greatest text) (is_after 43 (are_digits_within least greatest) text || is_after 45 (are_negative_within least greatest) text) (unsigned_decides least greatest text)
    (Decides-or (is_after 43 (are_digits_within least greatest) text) (is_after 45 (are_negative_within least greatest) text)
    (after_decides 43 (are_digits_within least greatest) (Unsigned least greatest) (unsigned_decides least greatest) text)
    (after_decides 45 (are_negative_within least greatest) (Negative least greatest) (negative_decides least greatest) text)))
  where
    to : Unsigned least greatest text ⊎ (After 43 (Unsigned least greatest) text ⊎ After 45 (Negative least greatest) text) → InRange least greatest text
    to (inl h) = (text, h.0, inl (inl refl, h.1))
    to (inr (inl (cs, h, e))) = (cs, h.0, inl (inr e, h.1))
    to (inr (inr (cs, h, e))) = (cs, h.0, inr (e, h.1.0, h.1.1))

    from : InRange least greatest text → Unsigned least greatest text ⊎ (After 43 (Unsigned least greatest) text ⊎ After 45 (Negative least greatest) text)
    from (cs, digits, inl (inl e, h)) = inl (subst (Unsigned least greatest) (sym e) (digits, h))
    from (cs, digits, inl (inr e, h)) = inr (inl (cs, (digits, h), e))
    from (cs, digits, inr (e, below, h)) = inr (inr (cs, (digits, (below, h)), e))

range_char_decides : (least : ℤ) (c : ℕ) → Decides (is_range_char least c) (IsRangeChar least c)
range_char_decides least c =
    Decides-or (c == 43) (is_ascii_digit c || ((c == 45) && int_lt least (pos 0))) (Decides-eqb c 43)
    (Decides-or (is_ascii_digit c) ((c == 45) && int_lt least (pos 0)) (digit_decides c)
    (Decides-and (c == 45) (int_lt least (pos 0)) (Decides-eqb c 45) (int_lt_decides least (pos 0))))

-- ---- texts

always : Decides true (Unit {0})
always = (λ e. tt, λ h. refl)

kind_law : (k : Kind) (text : List ℕ) → Decides (in_kind k text) (InKind k text)
kind_law Any text = always
kind_law (Filter set) text = all_decides (char_set_contains set) (Contains set) (contains_decides set) text
kind_law (Range least greatest) text = range_law least greatest text
kind_law (Picture p) text = matches_law p text

become_law : (k : Kind) (text : List ℕ) → Decides (may_become k text) (MayBecome k text)
become_law Any text = always
become_law (Filter set) text = all_decides (char_set_contains set) (Contains set) (contains_decides set) text
become_law (Range least greatest) text = all_decides (is_range_char least) (IsRangeChar least) (range_char_decides least) text
become_law (Picture p) text = begins_law p text

fits_law : (max : ℤ) (text : List ℕ) → Decides (fits_in max text) (FitsIn max text)
fits_law max text =
    Decides-like (fits_in max text) (λ h. (h.0, h.1.0, h.1.1)) (λ (f : FitsIn max text). (f.0, (f.1, f.2)))
    (Decides-and (int_le (pos (length text)) max) (nat_le (length text) 120 && list_all is_narrow text) (int_le_decides (pos (length text)) max)
    (Decides-and (nat_le (length text) 120) (list_all is_narrow text) (le_decides (length text) 120) (all_decides is_narrow IsNarrow narrow_decides text)))

nil_decides : (text : List ℕ) → Decides (length text == 0) (text ≡ [])
nil_decides text = Decides-like (length text == 0) (nil_from_length text) (λ e. ap length e) (Decides-eqb (length text) 0)

-- the function says whether the text lies in the domain
pub in_domain_law : (d : Domain) (text : List ℕ) → Decides (in_domain d text) (InDomain d text)
in_domain_law d text =
    Decides-and (fits_in d.max text) (in_kind d.kind text || (d.optional && (length text == 0))) (fits_law d.max text)
    (Decides-or (in_kind d.kind text) (d.optional && (length text == 0)) (kind_law d.kind text)
    (Decides-and d.optional (length text == 0) (λ e. e, λ e. e) (nil_decides text)))

-- and whether it may stand there while it is typed
pub viable_law : (d : Domain) (text : List ℕ) → Decides (viable d text) (IsViableText d text)
viable_law d text = Decides-and (fits_in d.max text) (may_become d.kind text) (fits_law d.max text) (become_law d.kind text)
