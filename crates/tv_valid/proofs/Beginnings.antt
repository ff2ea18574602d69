-- Beginnings of texts that are viable or lie in a domain.
use Rattle.std.proofs.Common.{inl, inr, ◌≤◌, ℕ, List, [], length, take, refl, sym, subst, arith}
use Rattle.std.specs.Prelude.{All, Contains, ℤ, pos, ◌≤ℤ◌}
use Rattle.std.proofs.lemmas.Int.{ints}
use Rattle.std.proofs.lemmas.List.{length-take}
use Rattle.std.proofs.lemmas.List.Elements.{All-nil, All-cons, All-take, All-weaker}
use Rattle.tv_cells.specs.Glyph.{IsNarrow}
use Rattle.tv_picture.specs.Pattern.{IsDigit}
use Rattle.tv_picture.proofs.Language.{has_member}
use Rattle.tv_picture.proofs.Laws.{begins_take, begins_whole}
use Rattle.tv_valid.specs.declared.domain.Kind.{Kind}
use Rattle.tv_valid.specs.declared.domain.Kind.TheVariants.{Any, Filter, Range, Picture}
use Rattle.tv_valid.specs.declared.domain.Domain.{Domain}
use Rattle.tv_valid.specs.Domain.{FitsIn, InRange, InKind, IsRangeChar, MayBecome, InDomain, IsViableText}

shorter : (max : ℤ) (n k : ℕ) → pos n ≤ℤ max → k ≤ n → pos k ≤ℤ max
shorter max n k h less = omega (arith, ints)

fits_take : (max : ℤ) (text : List ℕ) (k : ℕ) → FitsIn max text → FitsIn max (take k text)
fits_take max text k (few, least, narrow) =
    let less : length (take k text) ≤ length text = omega (arith, length-take k text) in
    (shorter max (length text) (length (take k text)) few less, omega arith, All-take IsNarrow k text narrow)

becomes_take : (kind : Kind) (text : List ℕ) (k : ℕ) → MayBecome kind text → MayBecome kind (take k text)
becomes_take Any text k h = h
becomes_take (Filter set) text k h = All-take (Contains set) k text h
becomes_take (Range least greatest) text k h = All-take (IsRangeChar least) k text h
becomes_take (Picture p) text k h = begins_take p text k h

pub viable_take : (d : Domain) (text : List ℕ) (k : ℕ) → IsViableText d text → IsViableText d (take k text)
viable_take d text k (fits, becomes) = (fits_take d.max text k fits, becomes_take d.kind text k becomes)

-- ---- what is accepted is viable

range_chars : (least greatest : ℤ) (text : List ℕ) → InRange least greatest text → All (IsRangeChar least) text
range_chars least greatest text (cs, (some, digits), inl (inl e, between)) = subst (All (IsRangeChar least)) (sym e) (All-weaker IsDigit (IsRangeChar least) (λ c h. inr (inl h)) cs digits)
range_chars least greatest text (cs, (some, digits), inl (inr e, between)) = subst (All (IsRangeChar least)) (sym e) (All-cons (IsRangeChar least) 43 cs (inl refl) (All-weaker IsDigit (IsRangeChar least) (λ c h. inr (inl h)) cs digits))
range_chars least greatest text (cs, (some, digits), inr (e, negative, between)) = subst (All (IsRangeChar least)) (sym e) (All-cons (IsRangeChar least) 45 cs (inr (inr (refl, negative))) (All-weaker IsDigit (IsRangeChar least) (λ c h. inr (inl h)) cs digits))

member_becomes : (kind : Kind) (text : List ℕ) → InKind kind text → MayBecome kind text
member_becomes Any text h = h
member_becomes (Filter set) text h = h
member_becomes (Range least greatest) text h = range_chars least greatest text h
member_becomes (Picture p) text h = begins_whole p text h

empty_becomes : (kind : Kind) → MayBecome kind []
empty_becomes Any = tt
empty_becomes (Filter set) = All-nil (Contains set)
empty_becomes (Range least greatest) = All-nil (IsRangeChar least)
empty_becomes (Picture p) = has_member p

pub accepted_viable : (d : Domain) (text : List ℕ) → InDomain d text → IsViableText d text
accepted_viable d text (fits, inl h) = (fits, member_becomes d.kind text h)
accepted_viable d text (fits, inr (optional, e)) = (fits, subst (MayBecome d.kind) (sym e) (empty_becomes d.kind))
