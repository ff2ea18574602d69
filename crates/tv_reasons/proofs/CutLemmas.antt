-- Lines: characters of one column, cut where there is no more room.
use Rattle.std.proofs.Common.{true, false, Bool, zero, suc, ◌≡◌, ◌≤◌, ◌<◌, ◌++◌, ◌∙◌, ℕ}
use Rattle.std.proofs.Common.{List, [], ◌∷◌, refl, sym, ap, arith, length, take, map, append_assoc}
use Rattle.std.specs.List.{All}
use Rattle.std.specs.Str.{chars}
use Rattle.std.proofs.lemmas.Bool.{cond_both}
use Rattle.std.proofs.lemmas.List.{take_all, take-append-le, length-take, length-append, map-append, append-nil}
use Rattle.std.proofs.lemmas.List.Elements.{All-nil, All-cons, All-take, All-append, All-map}
use Rattle.tv_cells.specs.Glyph.{IsNarrow, is_narrow}
use Rattle.tv_cells.proofs.NarrowLemmas.{ascii_narrow}
use Rattle.tv_picture.proofs.LengthLemmas.{narrow_decides}
use Rattle.tv_valid.specs.declared.input.DomainSpec.{DomainSpec}
use Rattle.tv_valid.specs.declared.input.DomainSpec.TheVariants as domains
use Rattle.tv_reasons.specs.Reasons.{printed, line_of, between, first_words}

-- ---- what is cut

-- what was cut before may be cut with what comes behind it
pub take_again : (n : ℕ) (xs ys : List ℕ) → take n (take n xs ++ ys) ≡ take n (xs ++ ys)
take_again zero xs ys = refl
take_again (suc n) [] ys = refl
take_again (suc n) (x ∷ xs) ys = ap (λ l. x ∷ l) (take_again n xs ys)

-- a line to which nothing is added
pub as_it_was : (line : List ℕ) → length line ≤ 132 → line ≡ take 132 (line ++ [])
as_it_was line short = sym (ap (take 132) (append-nil line) ∙ take_all 132 line short)

-- a line that has room for the character
pub with_room : (xs : List ℕ) (c : ℕ) → length xs < 132 → xs ++ c ∷ [] ≡ take 132 (xs ++ c ∷ [])
with_room xs c less = sym (take_all 132 (xs ++ c ∷ []) (omega (arith, length-append xs (c ∷ []), less)))

-- a line that has none
pub when_full : (xs : List ℕ) (c : ℕ) → length xs ≡ 132 → xs ≡ take 132 (xs ++ c ∷ [])
when_full xs c full = sym (take-append-le 132 xs (c ∷ []) (omega (arith, full)) ∙ take_all 132 xs (omega (arith, full)))

-- a line to which a character is added, behind others that were
pub one_more : (line before chars now : List ℕ) (ch : ℕ) → before ≡ take 132 (line ++ map printed chars)
    → now ≡ take 132 (before ++ printed ch ∷ []) → now ≡ take 132 (line ++ map printed (chars ++ ch ∷ []))
one_more line before chars now ch was is =
    is ∙ ap (λ l. take 132 (l ++ printed ch ∷ [])) was ∙ take_again 132 (line ++ map printed chars) (printed ch ∷ [])
    ∙ ap (take 132) (append_assoc line (map printed chars) (printed ch ∷ []) ∙ ap (λ l. line ++ l) (sym (map-append printed chars (ch ∷ []))))

-- a line of three parts
pub three_parts : (name between words first second third : List ℕ) → first ≡ take 132 (map printed name)
    → second ≡ take 132 (first ++ map printed between) → third ≡ take 132 (second ++ map printed words)
    → third ≡ line_of (name ++ between ++ words)
three_parts name between words first second third a b c =
    let p = map printed name in
    let q = map printed between in
    let r = map printed words in
    c ∙ ap (λ l. take 132 (l ++ r)) b ∙ take_again 132 (first ++ q) r
    ∙ ap (λ l. take 132 (l ++ q ++ r)) a ∙ ap (take 132) (append_assoc (take 132 p) q r) ∙ take_again 132 p (q ++ r)
    ∙ ap (take 132) (sym (map-append printed (name ++ between) words ∙ ap (λ l. l ++ r) (map-append printed name between) ∙ append_assoc p q r))

-- a line to which one part more is added
pub further_part : (text words line longer : List ℕ) → line ≡ line_of text → longer ≡ take 132 (line ++ map printed words)
    → longer ≡ line_of (text ++ words)
further_part text words line longer was is =
    is ∙ ap (λ l. take 132 (l ++ map printed words)) was ∙ take_again 132 (map printed text) (map printed words)
    ∙ ap (take 132) (sym (map-append printed text words))

-- ---- what stands behind the name

pub spelled_between : (is_hidden : Bool) → chars (between is_hidden) ≡ between is_hidden
unfolding chars
spelled_between true = refl
spelled_between false = refl

pub spelled_first : (domain : DomainSpec) → chars (first_words domain) ≡ first_words domain
unfolding chars
spelled_first domains.Any = refl
spelled_first (domains.Filter set) = refl
spelled_first (domains.Range least greatest) = refl
spelled_first (domains.Picture picture) = refl

-- ---- what a terminal shows

pub printed_narrow : (ch : ℕ) → IsNarrow (printed ch)
printed_narrow ch = cond_both (is_narrow ch) ch 63 IsNarrow (λ e. (narrow_decides ch).0 e) (λ e. ascii_narrow 63 (omega arith) (omega arith))

all_printed : (chars : List ℕ) → All (λ ch. IsNarrow (printed ch)) chars
all_printed [] = All-nil (λ ch. IsNarrow (printed ch))
all_printed (c ∷ cs) = All-cons (λ ch. IsNarrow (printed ch)) c cs (printed_narrow c) (all_printed cs)

-- a line to which characters were added is one
pub still_line : (line chars : List ℕ) → All IsNarrow line
    → (length (take 132 (line ++ map printed chars)) ≤ 132) × All IsNarrow (take 132 (line ++ map printed chars))
still_line line chars narrow =
    let whole = line ++ map printed chars in (
      omega (arith, length-take 132 whole),
      All-take IsNarrow 132 whole (All-append IsNarrow line (map printed chars) narrow (All-map IsNarrow printed chars (all_printed chars))),
    )
