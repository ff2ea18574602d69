-- Places to which any number of characters lead.
use Rattle.std.proofs.Common.{suc, zero, ◌≡◌, ◌≢◌, ◌⊎◌, inl, inr, ◌↔◌, ℕ, ◌+◌, ◌-◌, ◌<◌, ◌≤◌, List, [], ◌∷◌, ◌++◌, length, drop, true, false, arith, refl, ◌∙◌, sym, ap, subst, append-nil}
use Rattle.std.specs.Prelude.{nat_le}
use Rattle.std.proofs.lemmas.Bool.Decides.{leb_tells}
use Rattle.std.proofs.lemmas.List.Elements.{All-nil}
use Rattle.tv_picture.specs.declared.code.Mark.{Mark}
use Rattle.tv_picture.specs.declared.places.Places.{Places}
use Rattle.tv_picture.specs.declared.row.Row.{Row}
use Rattle.tv_picture.specs.Pattern.{Pattern, one, sequence, many, Allows, IsMember}
use Rattle.tv_picture.specs.Table.{HasPlace, NamesNext, either_next, Spans, MayFollow, IsTableRow, StandsAt}
use Rattle.tv_picture.proofs.Rows.{one_follows}
use Rattle.tv_picture.proofs.Gathered.{dec, Names_same, Names_joined}
use Rattle.tv_picture.proofs.Appended.{at_within, NextAfter, follows_end, follows_only_end}
use Rattle.tv_picture.proofs.Repeated.{FollowsIn, spans_more, row_grown}

-- from a place of the set on the mark stands for each character up to this one
abbrev pub LedTo : Places → Mark → List ℕ → ℕ → Type 0
LedTo places m text k = (p : ℕ) × HasPlace places p × (p ≤ k) × ((r : ℕ) → p ≤ r → r < k → StandsAt m text r)

-- the set, where the places below this one have led on
pub record IsSpread (from : Places) (m : Mark) (text : List ℕ) (place : ℕ) (places : Places) : Type 0 where
  pub sound : (k : ℕ) → HasPlace places k → LedTo from m text k
  pub start : (k : ℕ) → HasPlace from k → HasPlace places k
  pub closed : (r : ℕ) → r < place → HasPlace places r → StandsAt m text r → HasPlace places (r + 1)

-- where no place is an edge, each leads on
abbrev pub IsSmooth : Places → ℕ → ℕ → Type 0
IsSmooth places from to = (r : ℕ) → from ≤ r → r < to → (HasPlace places r × (HasPlace places (r + 1) → ⊥)) → ⊥

smooth : (places : Places) (r : ℕ) → ((HasPlace places r × (HasPlace places (r + 1) → ⊥)) → ⊥) → HasPlace places r → HasPlace places (r + 1)
smooth places r never has = λ z. never (has, λ h. h z)

pub spread_none : (from : Places) (m : Mark) (text : List ℕ) (place : ℕ) → IsSmooth from 0 place → IsSpread from m text place from
spread_none from m text place free = record {
  sound = λ k has. (k, has, omega arith, λ r above below. absurd (omega arith));
  start = λ k has. has;
  closed = λ r low has stands. smooth from r (free r (omega arith) low) has;
}

led_on : (from : Places) (m : Mark) (text : List ℕ) (k : ℕ) → LedTo from m text k → StandsAt m text k → LedTo from m text (k + 1)
led_on from m text k (p, has, order, each) stands = (p, has, omega arith, λ r above below. at r above below (dec r k))
  where
    at : (r : ℕ) → p ≤ r → r < k + 1 → (r ≡ k) ⊎ (r ≢ k) → StandsAt m text r
    at r above below (inl e) = subst (StandsAt m text) (sym e) stands
    at r above below (inr n) = each r above (omega arith)

pub spread_more : (from places new : Places) (m : Mark) (text : List ℕ) (place next : ℕ) → HasPlace places place → StandsAt m text place → ((k : ℕ) → HasPlace new k ↔ (HasPlace places k ⊎ (k ≡ place + 1))) → IsSmooth new (place + 1) next → IsSpread from m text place places → IsSpread from m text next new
spread_more from places new m text place next has stands joins free g = record {
  sound = λ k at. sound k ((joins k).0 at);
  start = λ k at. (joins k).1 (inl (g.start k at));
  closed = λ r low at s. closed r low at s (leb_tells (place + 1) r);
}
  where
    sound : (k : ℕ) → HasPlace places k ⊎ (k ≡ place + 1) → LedTo from m text k
    sound k (inl at) = g.sound k at
    sound k (inr e) = subst (LedTo from m text) (sym e) (led_on from m text place (g.sound place has) stands)

    old : (r : ℕ) → r < place → HasPlace places r ⊎ (r ≡ place + 1) → HasPlace places r
    old r low (inl at) = at
    old r low (inr e) = absurd (omega arith)

    low_closed : (r : ℕ) → r < place + 1 → HasPlace new r → StandsAt m text r → (r ≡ place) ⊎ (r ≢ place) → HasPlace new (r + 1)
    low_closed r low at s (inl e) = (joins (r + 1)).1 (inr (omega arith))
    low_closed r low at s (inr n) = let lower : r < place = omega arith in (joins (r + 1)).1 (inl (g.closed r lower (old r lower ((joins r).0 at)) s))

    closed : (r : ℕ) → r < next → HasPlace new r → StandsAt m text r → ((nat_le (place + 1) r ≡ true) × (place + 1 ≤ r)) ⊎ ((nat_le (place + 1) r ≡ false) × (r < place + 1)) → HasPlace new (r + 1)
    closed r low at s (inl (t, above)) = smooth new r (free r above low) at
    closed r low at s (inr (t, below)) = low_closed r below at s (dec r place)

pub spread_skip : (from places : Places) (m : Mark) (text : List ℕ) (place next : ℕ) → (StandsAt m text place → ⊥) → IsSmooth places (place + 1) next → IsSpread from m text place places → IsSpread from m text next places
spread_skip from places m text place next barred free g = record {
  sound = g.sound;
  start = g.start;
  closed = λ r low at s. closed r low at s (leb_tells (place + 1) r);
}
  where
    low_closed : (r : ℕ) → r < place + 1 → HasPlace places r → StandsAt m text r → (r ≡ place) ⊎ (r ≢ place) → HasPlace places (r + 1)
    low_closed r low at s (inl e) = absurd (barred (subst (StandsAt m text) e s))
    low_closed r low at s (inr n) = g.closed r (omega arith) at s

    closed : (r : ℕ) → r < next → HasPlace places r → StandsAt m text r → ((nat_le (place + 1) r ≡ true) × (place + 1 ≤ r)) ⊎ ((nat_le (place + 1) r ≡ false) × (r < place + 1)) → HasPlace places (r + 1)
    closed r low at s (inl (t, above)) = smooth places r (free r above low) at
    closed r low at s (inr (t, below)) = low_closed r below at s (dec r place)

pub spread_all : (from places : Places) (m : Mark) (text : List ℕ) (place : ℕ) → length text ≤ place → IsSpread from m text place places → (k : ℕ) → HasPlace places k ↔ LedTo from m text k
spread_all from places m text place enough g k = (g.sound k, λ (h : LedTo from m text k). back h.0 h.1 h.2 h.3)
  where
    walks : (d p : ℕ) → HasPlace places p → ((r : ℕ) → p ≤ r → r < p + d → StandsAt m text r) → HasPlace places (p + d)
    walks zero p has each = let same : p ≡ p + 0 = omega arith in subst (HasPlace places) same has
    walks (suc d) p has each =
        let here : StandsAt m text p = each p (omega arith) (omega arith) in
        let inside : p < length text = at_within m text p here in
        let same : p + 1 + d ≡ p + suc d = omega arith in
        subst (HasPlace places) same (walks d (p + 1) (g.closed p (omega arith) has here) (λ r above below. each r (omega arith) (omega arith)))

    back : (p : ℕ) → HasPlace from p → p ≤ k → ((r : ℕ) → p ≤ r → r < k → StandsAt m text r) → HasPlace places k
    back p has order each =
        let same : p + (k - p) ≡ k = omega arith in
        subst (HasPlace places) same (walks (k - p) p (g.start p has) (λ r above below. each r above (omega arith)))

-- ---- the row

pub row_spread : (a : Pattern) (m : Mark) (text : List ℕ) (row result : Row) → IsTableRow a text 0 row → ((k : ℕ) → HasPlace result.ends k ↔ LedTo row.ends m text k) → NextAfter (record { ends = result.ends; next = row.next }) m text result.next → IsTableRow (sequence a (many (one m))) text 0 result
row_spread a m text row result h ends follow = row_grown a (one m) text row h result (record {
  sound = λ k has. let s = (ends k).0 has in sound s.0 s.1 k s.2 s.3;
  start = λ k has. (ends k).1 (k, has, omega arith, λ r above below. absurd (omega arith));
  closed = λ r low has k s. closed r has k s;
  next = next follow;
})
  where
    begun : (p : ℕ) → HasPlace row.ends p → Spans (sequence a (many (one m))) text 0 p
    begun p has = let s = (h.ends p).0 has in (s.0, s.1, (s.0, [], s.2, ([], All-nil (IsMember (one m)), refl), sym (append-nil s.0)), s.3, s.4)

    walks : (d p : ℕ) → HasPlace row.ends p → ((r : ℕ) → p ≤ r → r < p + d → StandsAt m text r) → Spans (sequence a (many (one m))) text 0 (p + d)
    walks zero p has each = let same : p ≡ p + 0 = omega arith in subst (Spans (sequence a (many (one m))) text 0) same (begun p has)
    walks (suc d) p has each =
        let x = each (p + d) (omega arith) (omega arith) in
        spans_more a (one m) text (p + d) (p + suc d) (walks d p has (λ r above below. each r above (omega arith))) (x.0 ∷ [], x.1, (x.0, x.3, refl), x.2, omega arith)

    sound : (p : ℕ) → HasPlace row.ends p → (k : ℕ) → p ≤ k → ((r : ℕ) → p ≤ r → r < k → StandsAt m text r) → Spans (sequence a (many (one m))) text 0 k
    sound p has k order each =
        let same : p + (k - p) ≡ k = omega arith in
        subst (Spans (sequence a (many (one m))) text 0) same (walks (k - p) p has (λ r above below. each r above (omega arith)))

    closed : (r : ℕ) → HasPlace result.ends r → (k : ℕ) → Spans (one m) (drop r text) r k → HasPlace result.ends k
    closed r has k (u, v, (x, allows, eu), e, ek) =
        let next_to : k ≡ r + 1 = omega (arith, ap length eu) in
        subst (HasPlace result.ends) (sym next_to) ((ends (r + 1)).1 (led_on row.ends m text r ((ends r).0 has) (x, v, e ∙ ap (λ y. y ++ v) eu, allows)))

    Both : ℕ → Type 0
    Both c = MayFollow a text c ⊎ Allows m c

    wide : HasPlace result.ends (length text) → (c : ℕ) → Both c → FollowsIn a (one m) text (length text + 1) result c
    wide has c (inl f) = inl f
    wide has c (inr allows) = inr (length text, omega arith, has, follows_end m text c allows)

    narrow : (c : ℕ) → FollowsIn a (one m) text (length text + 1) result c → Both c
    narrow c (inl f) = inl f
    narrow c (inr (r, low, has, f)) = inr (one_follows m (drop r text) c f).1

    narrower : (HasPlace result.ends (length text) → ⊥) → (c : ℕ) → FollowsIn a (one m) text (length text + 1) result c → MayFollow a text c
    narrower none c (inl f) = f
    narrower none c (inr (r, low, has, f)) = let low' : r ≤ length text = omega arith in absurd (none (subst (HasPlace result.ends) (follows_only_end m text r c low' f) has))

    next : NextAfter (record { ends = result.ends; next = row.next }) m text result.next → NamesNext (FollowsIn a (one m) text (length text + 1) result) result.next
    next (inl (has, (own, names, e))) = subst (NamesNext (FollowsIn a (one m) text (length text + 1) result)) (sym e) (Names_same Both (FollowsIn a (one m) text (length text + 1) result) (either_next row.next own) (wide has) narrow (Names_joined (MayFollow a text) (Allows m) row.next own h.next names))
    next (inr (none, e)) = subst (NamesNext (FollowsIn a (one m) text (length text + 1) result)) (sym e) (Names_same (MayFollow a text) (FollowsIn a (one m) text (length text + 1) result) row.next (λ c f. inl f) (narrower none) h.next)
