-- The row of a sequence that ends with one character, from the row of what comes before.
use Rattle.std.proofs.Common.{suc, ◌≡◌, ◌≢◌, ◌⊎◌, true, false, inl, inr, ◌↔◌, ℕ, ◌+◌, ◌<◌, ◌≤◌, List, [], ◌∷◌, ◌++◌, length, drop, arith, refl, ◌∙◌, sym, ap, subst, get_or, length-drop}
use Rattle.std.specs.Prelude.{nat_le}
use Rattle.std.proofs.Math.Seq.{drop-cons, drop-length}
use Rattle.std.proofs.lemmas.Bool.Decides.{leb_tells}
use Rattle.tv_picture.specs.declared.code.Mark.{Mark}
use Rattle.tv_picture.specs.declared.places.Places.{Places}
use Rattle.tv_picture.specs.declared.row.Next.{Next}
use Rattle.tv_picture.specs.declared.row.Row.{Row}
use Rattle.tv_picture.specs.Pattern.{Pattern, empty, one, sequence, group, Allows, IsMember}
use Rattle.tv_picture.specs.Table.{HasPlace, NamesNext, either_next, MayFollow, IsTableRow, StandsAt}
use Rattle.tv_picture.proofs.Language.{Through, follows_next, next_of_left, next_of_right}
use Rattle.tv_picture.proofs.Rows.{row_same, Meets, spans_parted, spans_met, one_follows, through_at, at_through}
use Rattle.tv_picture.proofs.Gathered.{dec, Names_same, Names_joined}

-- the mark stands at a place inside the text
pub at_within : (m : Mark) (text : List ℕ) (p : ℕ) → StandsAt m text p → p < length text
at_within m text p (c, rest, e, allows) = omega (arith, length-drop p text, ap length e)

pub stands_at : (m : Mark) (text : List ℕ) (p c : ℕ) → p < length text → c ≡ get_or text p c → Allows m c → StandsAt m text p
stands_at m text p c within is allows = (c, drop (suc p) text, drop-cons text p c within ∙ ap (λ y. y ∷ drop (suc p) text) (sym is), allows)

pub stands_not : (m : Mark) (text : List ℕ) (p c : ℕ) → p < length text → c ≡ get_or text p c → (Allows m c → ⊥) → StandsAt m text p → ⊥
stands_not m text p c within is barred (d, rest, e, allows) =
    let whole : c ∷ drop (suc p) text ≡ d ∷ rest = sym (drop-cons text p c within ∙ ap (λ y. y ∷ drop (suc p) text) (sym is)) ∙ e in
    let same : c ≡ d = cc in
    barred (subst (Allows m) (sym same) allows)

-- a place is reached from one of these by one character
abbrev pub After : Places → Mark → List ℕ → ℕ → Type 0
After places m text k = (p : ℕ) × HasPlace places p × StandsAt m text p × (k ≡ p + 1)

-- and that one is below a bound
abbrev pub AfterBelow : Places → Mark → List ℕ → ℕ → ℕ → Type 0
AfterBelow places m text stop k = (p : ℕ) × HasPlace places p × (p < stop) × StandsAt m text p × (k ≡ p + 1)

pub after_none : (places none : Places) (m : Mark) (text : List ℕ) (stop : ℕ) → ((k : ℕ) → HasPlace none k → ⊥) → ((p : ℕ) → p < stop → HasPlace places p → ⊥) → (k : ℕ) → HasPlace none k ↔ AfterBelow places m text stop k
after_none places none m text stop blank free k = ((λ h. absurd (blank k h)), (λ (h : AfterBelow places m text stop k). absurd (free h.0 h.2 h.1)))

-- no place of the set between two bounds
abbrev pub IsGap : Places → ℕ → ℕ → Type 0
IsGap places from to = (p : ℕ) → from ≤ p → p < to → HasPlace places p → ⊥

pub after_more : (places old new : Places) (m : Mark) (text : List ℕ) (place next : ℕ) → place < next → IsGap places (place + 1) next → HasPlace places place → StandsAt m text place → ((k : ℕ) → HasPlace new k ↔ (HasPlace old k ⊎ (k ≡ place + 1))) → ((k : ℕ) → HasPlace old k ↔ AfterBelow places m text place k) → (k : ℕ) → HasPlace new k ↔ AfterBelow places m text next k
after_more places old new m text place next order gap has stands joins so_far k = ((λ h. forth ((joins k).0 h)), (λ (h : AfterBelow places m text next k). (joins k).1 (back h.0 h.1 h.2 h.3 h.4)))
  where
    forth : HasPlace old k ⊎ (k ≡ place + 1) → AfterBelow places m text next k
    forth (inl h) = let s = (so_far k).0 h in (s.0, s.1, (let b = s.2 in omega arith), s.3, s.4)
    forth (inr e) = (place, has, order, stands, e)

    back : (p : ℕ) → HasPlace places p → p < next → StandsAt m text p → k ≡ p + 1 → HasPlace old k ⊎ (k ≡ place + 1)
    back p h below s e = cases (leb_tells (place + 1) p)
      where
        cases : ((nat_le (place + 1) p ≡ true) × (place + 1 ≤ p)) ⊎ ((nat_le (place + 1) p ≡ false) × (p < place + 1)) → HasPlace old k ⊎ (k ≡ place + 1)
        cases (inl (t, above)) = absurd (gap p above below h)
        cases (inr (t, low)) = at (dec p place)
          where
            at : (p ≡ place) ⊎ (p ≢ place) → HasPlace old k ⊎ (k ≡ place + 1)
            at (inl f) = inr (omega arith)
            at (inr n) = inl ((so_far k).1 (p, h, omega arith, s, e))

pub after_skip : (places old : Places) (m : Mark) (text : List ℕ) (place next : ℕ) → place < next → IsGap places (place + 1) next → (StandsAt m text place → ⊥) → ((k : ℕ) → HasPlace old k ↔ AfterBelow places m text place k) → (k : ℕ) → HasPlace old k ↔ AfterBelow places m text next k
after_skip places old m text place next order gap barred so_far k = ((λ h. forth ((so_far k).0 h)), (λ (h : AfterBelow places m text next k). (so_far k).1 (back h.0 h.1 h.2 h.3 h.4)))
  where
    forth : AfterBelow places m text place k → AfterBelow places m text next k
    forth s = (s.0, s.1, (let b = s.2 in omega arith), s.3, s.4)

    back : (p : ℕ) → HasPlace places p → p < next → StandsAt m text p → k ≡ p + 1 → AfterBelow places m text place k
    back p h below s e = cases (leb_tells (place + 1) p)
      where
        cases : ((nat_le (place + 1) p ≡ true) × (place + 1 ≤ p)) ⊎ ((nat_le (place + 1) p ≡ false) × (p < place + 1)) → AfterBelow places m text place k
        cases (inl (t, above)) = absurd (gap p above below h)
        cases (inr (t, low)) = at (dec p place)
          where
            at : (p ≡ place) ⊎ (p ≢ place) → AfterBelow places m text place k
            at (inl f) = absurd (barred (subst (StandsAt m text) f s))
            at (inr n) = (p, h, omega arith, s, e)

-- the whole text is passed
pub after_all : (places after : Places) (m : Mark) (text : List ℕ) (place : ℕ) → length text ≤ place → ((k : ℕ) → HasPlace after k ↔ AfterBelow places m text place k) → (k : ℕ) → HasPlace after k ↔ After places m text k
after_all places after m text place enough h k = ((λ has. let s = (h k).0 has in (s.0, s.1, s.3, s.4)), (λ (a : After places m text k). (h k).1 (a.0, a.1, (let inside = at_within m text a.0 a.2 in omega arith), a.2, a.3)))

-- ---- the row

-- what follows the text after the row: the character's own, where a member ends with the text
abbrev pub NextAfter : Row → Mark → List ℕ → Next → Type 0
NextAfter row m text next = (HasPlace row.ends (length text) × ((own : Next) × NamesNext (Allows m) own × (next ≡ either_next row.next own))) ⊎ ((HasPlace row.ends (length text) → ⊥) × (next ≡ row.next))

pub follows_end : (m : Mark) (text : List ℕ) (c : ℕ) → Allows m c → MayFollow (one m) (drop (length text) text) c
follows_end m text c allows = subst (λ (t : List ℕ). MayFollow (one m) t c) (sym (drop-length text)) ([], (c, allows, refl))

pub follows_only_end : (m : Mark) (text : List ℕ) (r c : ℕ) → r ≤ length text → MayFollow (one m) (drop r text) c → r ≡ length text
follows_only_end m text r c low f = omega (arith, length-drop r text, ap length (one_follows m (drop r text) c f).0)

pub row_append : (a : Pattern) (m : Mark) (text : List ℕ) (row result : Row) → IsTableRow a text 0 row → ((k : ℕ) → HasPlace result.ends k ↔ After row.ends m text k) → NextAfter row m text result.next → IsTableRow (sequence a (one m)) text 0 result
row_append a m text row result h ends follow = record {
  ends = λ to. ((λ has. spans_met a (one m) text 0 to (met to ((ends to).0 has))), (λ s. (ends to).1 (parted to (spans_parted a (one m) text 0 to (omega arith) s))));
  next = next follow;
}
  where
    met : (to : ℕ) → After row.ends m text to → Meets a (one m) text 0 to
    met to (p, has, (x, rest, e, allows), eto) =
        let inside : p < length text = at_within m text p (x, rest, e, allows) in
        (p, omega arith, omega arith, (h.ends p).0 has, (x ∷ [], rest, (x, allows, refl), e, omega arith))

    parted : (to : ℕ) → Meets a (one m) text 0 to → After row.ends m text to
    parted to (r, above, below, s, (u, v, (x, allows, eu), e, eto)) = (r, (h.ends r).1 s, (x, v, e ∙ ap (λ y. y ++ v) eu, allows), omega (arith, ap length eu))

    Both : ℕ → Type 0
    Both c = MayFollow a text c ⊎ Allows m c

    last : (c : ℕ) → Through a (one m) text c → HasPlace row.ends (length text) × Allows m c
    last c t =
        let p = through_at a (one m) text 0 c (omega arith) t in
        let f = one_follows m (drop p.0 text) c p.3 in
        let low : p.0 ≤ length text = p.1 in
        let end : p.0 ≡ length text = omega (arith, length-drop p.0 text, ap length f.0) in
        (subst (HasPlace row.ends) end ((h.ends p.0).1 p.2), f.1)

    through : HasPlace row.ends (length text) → (c : ℕ) → Allows m c → Through a (one m) text c
    through has c allows = at_through a (one m) text 0 (length text) c ((h.ends (length text)).0 has) (subst (λ (t : List ℕ). MayFollow (one m) t c) (sym (drop-length text)) ([], (c, allows, refl)))

    wide : HasPlace row.ends (length text) → (c : ℕ) → Both c → MayFollow (sequence a (one m)) text c
    wide has c (inl f) = next_of_left a (one m) text c f
    wide has c (inr allows) = next_of_right a (one m) text c (through has c allows)

    narrow : (c : ℕ) → MayFollow (sequence a (one m)) text c → Both c
    narrow c f = cases (follows_next a (one m) text c f)
      where
        cases : MayFollow a text c ⊎ Through a (one m) text c → Both c
        cases (inl g) = inl g
        cases (inr t) = inr (last c t).1

    narrower : (HasPlace row.ends (length text) → ⊥) → (c : ℕ) → MayFollow (sequence a (one m)) text c → MayFollow a text c
    narrower none c f = cases (follows_next a (one m) text c f)
      where
        cases : MayFollow a text c ⊎ Through a (one m) text c → MayFollow a text c
        cases (inl g) = g
        cases (inr t) = absurd (none (last c t).0)

    next : NextAfter row m text result.next → NamesNext (MayFollow (sequence a (one m)) text) result.next
    next (inl (has, (own, names, e))) = subst (NamesNext (MayFollow (sequence a (one m)) text)) (sym e) (Names_same Both (MayFollow (sequence a (one m)) text) (either_next row.next own) (wide has) narrow (Names_joined (MayFollow a text) (Allows m) row.next own h.next names))
    next (inr (none, e)) = subst (NamesNext (MayFollow (sequence a (one m)) text)) (sym e) (Names_same (MayFollow a text) (MayFollow (sequence a (one m)) text) row.next (λ c f. next_of_left a (one m) text c f) (narrower none) h.next)

-- a pattern that begins with the empty sequence
pub row_alone : (b : Pattern) (text : List ℕ) (row : Row) → IsTableRow (sequence empty b) text 0 row → IsTableRow b text 0 row
row_alone b text row h = row_same (sequence empty b) b text 0 row (λ t. (gone t, λ m. ([], t, refl, m, refl))) h
  where
    gone : (t : List ℕ) → IsMember (sequence empty b) t → IsMember b t
    gone t (u, v, none, m, e) = subst (IsMember b) (sym (e ∙ ap (λ x. x ++ v) none)) m

-- a pattern in braces
pub row_group : (a : Pattern) (text : List ℕ) (row : Row) → IsTableRow a text 0 row → IsTableRow (group a) text 0 row
row_group a text row h = record { ends = h.ends; next = h.next }
