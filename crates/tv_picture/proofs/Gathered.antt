-- What may follow, as none, one or more, and rows gathered one place at a time.
use Rattle.std.proofs.Common.{suc, zero, ◌≡◌, ◌≢◌, ◌⊎◌, inl, inr, ◌↔◌, ℕ, ◌+◌, ◌-◌, ◌<◌, ◌≤◌, List, drop, arith, ◌∙◌, sym, subst, Bool, true, false, ◌==◌, cond}
use Rattle.std.specs.Prelude.{nat_le}
use Rattle.std.proofs.lemmas.Bool.Decides.{eqb_tells, leb_tells}
use Rattle.tv_picture.specs.declared.places.Places.{Places}
use Rattle.tv_picture.specs.declared.row.Next.{Next}
use Rattle.tv_picture.specs.declared.row.Next.TheVariants.{Nothing, Only, Several}
use Rattle.tv_picture.specs.declared.row.Row.{Row}
use Rattle.tv_picture.specs.declared.table.Table.{Table}
use Rattle.tv_picture.specs.Pattern.{Pattern}
use Rattle.tv_picture.specs.Table.{HasPlace, NamesNext, either_next, MayFollow, FollowsFrom, AnyRow, Gathers, row_at}

pub dec : (m n : ℕ) → (m ≡ n) ⊎ (m ≢ n)
dec m n = told (eqb_tells m n)
  where
    told : ((m == n) ≡ true) × (m ≡ n) ⊎ ((m == n) ≡ false) × (m ≢ n) → (m ≡ n) ⊎ (m ≢ n)
    told (inl h) = inl h.1
    told (inr h) = inr h.1

-- ---- what follows, as none, one or more

pub Names_same : (P Q : ℕ → Type 0) (n : Next) → ((c : ℕ) → P c → Q c) → ((c : ℕ) → Q c → P c) → NamesNext P n → NamesNext Q n
Names_same P Q Nothing to from h = λ c q. h c (from c q)
Names_same P Q (Only x) to from h = (to x h.0, λ d q. h.1 d (from d q))
Names_same P Q Several to from h = (h.0, h.1, to h.0 h.2, to h.1 h.3, h.4)

two_names : (P Q : ℕ → Type 0) (x y : ℕ) → NamesNext P (Only x) → NamesNext Q (Only y) → ((x == y) ≡ true) × (x ≡ y) ⊎ ((x == y) ≡ false) × (x ≢ y) → NamesNext (λ c. P c ⊎ Q c) (either_next (Only x) (Only y))
two_names P Q x y h k (inl (e, same)) = subst (λ (b : Bool). NamesNext (λ c. P c ⊎ Q c) (cond b (Only x) Several)) (sym e) (inl h.0, one)
  where
    one : (d : ℕ) → P d ⊎ Q d → d ≡ x
    one d (inl p) = h.1 d p
    one d (inr q) = k.1 d q ∙ sym same
two_names P Q x y h k (inr (e, other)) = subst (λ (b : Bool). NamesNext (λ c. P c ⊎ Q c) (cond b (Only x) Several)) (sym e) (x, y, inl h.0, inr k.0, other)

pub Names_joined : (P Q : ℕ → Type 0) (m n : Next) → NamesNext P m → NamesNext Q n → NamesNext (λ c. P c ⊎ Q c) (either_next m n)
Names_joined P Q Nothing n h k = Names_same Q (λ c. P c ⊎ Q c) n (λ c q. inr q) back k
  where
    back : (c : ℕ) → P c ⊎ Q c → Q c
    back c (inl p) = absurd (h c p)
    back c (inr q) = q
Names_joined P Q (Only x) Nothing h k = (inl h.0, one)
  where
    one : (d : ℕ) → P d ⊎ Q d → d ≡ x
    one d (inl p) = h.1 d p
    one d (inr q) = absurd (k d q)
Names_joined P Q (Only x) (Only y) h k = two_names P Q x y h k (eqb_tells x y)
Names_joined P Q (Only x) Several h k = (k.0, k.1, inr k.2, inr k.3, k.4)
Names_joined P Q Several n h k = (h.0, h.1, inl h.2, inl h.3, h.4)

-- ---- rows gathered one place at a time

pub gathers_none : (places : Places) (table : Table) (start : ℕ) (first : Row) → Gathers places table start start first first
gathers_none places table start first = record {
  ends = λ k. (inl, ends_back k);
  next = λ a b text from names each. Names_same (MayFollow a (drop from text)) (λ c. MayFollow a (drop from text) c ⊎ FollowsFrom places b text start start c) first.next (λ c f. inl f) (back a b text from) names;
}
  where
    ends_back : (k : ℕ) → HasPlace first.ends k ⊎ AnyRow places table start start k → HasPlace first.ends k
    ends_back k (inl h) = h
    ends_back k (inr (r, above, below, _, _)) = absurd (omega arith)

    back : (a b : Pattern) (text : List ℕ) (from c : ℕ) → MayFollow a (drop from text) c ⊎ FollowsFrom places b text start start c → MayFollow a (drop from text) c
    back a b text from c (inl f) = f
    back a b text from c (inr (r, above, below, _, _)) = absurd (omega arith)

pub gathers_skip : (places : Places) (table : Table) (start stop : ℕ) (first row : Row) → (HasPlace places stop → ⊥) → Gathers places table start stop first row → Gathers places table start (stop + 1) first row
gathers_skip places table start stop first row not_here g = record {
  ends = λ k. ((λ h. wider k ((g.ends k).0 h)), (λ h. (g.ends k).1 (narrower k h)));
  next = λ a b text from names each. Names_same (λ c. MayFollow a (drop from text) c ⊎ FollowsFrom places b text start stop c) (λ c. MayFollow a (drop from text) c ⊎ FollowsFrom places b text start (stop + 1) c) row.next (more a b text from) (fewer a b text from) (g.next a b text from names (λ r above below has. each r above (omega arith) has));
}
  where
    wider : (k : ℕ) → HasPlace first.ends k ⊎ AnyRow places table start stop k → HasPlace first.ends k ⊎ AnyRow places table start (stop + 1) k
    wider k (inl h) = inl h
    wider k (inr (r, above, below, has, ends)) = inr (r, above, omega arith, has, ends)

    narrower : (k : ℕ) → HasPlace first.ends k ⊎ AnyRow places table start (stop + 1) k → HasPlace first.ends k ⊎ AnyRow places table start stop k
    narrower k (inl h) = inl h
    narrower k (inr (r, above, below, has, ends)) = inr (r, above, below_last r below has, has, ends)
      where
        below_last : (r : ℕ) → r < stop + 1 → HasPlace places r → r < stop
        below_last r below has = let apart : r ≢ stop = λ e. not_here (subst (HasPlace places) e has) in omega arith

    more : (a b : Pattern) (text : List ℕ) (from c : ℕ) → MayFollow a (drop from text) c ⊎ FollowsFrom places b text start stop c → MayFollow a (drop from text) c ⊎ FollowsFrom places b text start (stop + 1) c
    more a b text from c (inl f) = inl f
    more a b text from c (inr (r, above, below, has, f)) = inr (r, above, omega arith, has, f)

    fewer : (a b : Pattern) (text : List ℕ) (from c : ℕ) → MayFollow a (drop from text) c ⊎ FollowsFrom places b text start (stop + 1) c → MayFollow a (drop from text) c ⊎ FollowsFrom places b text start stop c
    fewer a b text from c (inl f) = inl f
    fewer a b text from c (inr (r, above, below, has, f)) = inr (r, above, below_last r below has, has, f)
      where
        below_last : (r : ℕ) → r < stop + 1 → HasPlace places r → r < stop
        below_last r below has = let apart : r ≢ stop = λ e. not_here (subst (HasPlace places) e has) in omega arith

pub gathers_rest : (more stop : ℕ) (places : Places) (table : Table) (start : ℕ) (first row : Row) → ((k : ℕ) → stop ≤ k → HasPlace places k → ⊥) → Gathers places table start stop first row → Gathers places table start (stop + more) first row
gathers_rest zero stop places table start first row none g = subst (λ (n : ℕ). Gathers places table start n first row) (omega arith) g
gathers_rest (suc more) stop places table start first row none g =
    subst (λ (n : ℕ). Gathers places table start n first row) (omega arith)
    (gathers_rest more (stop + 1) places table start first row (λ k above. none k (omega arith)) (gathers_skip places table start stop first row (none stop (omega arith)) g))

pub gathers_more : (places : Places) (table : Table) (start stop : ℕ) (first row result : Row) → start ≤ stop → HasPlace places stop → ((k : ℕ) → HasPlace result.ends k ↔ (HasPlace row.ends k ⊎ HasPlace (row_at table stop).ends k)) → result.next ≡ either_next row.next (row_at table stop).next → Gathers places table start stop first row → Gathers places table start (stop + 1) first result
gathers_more places table start stop first row result order has ends follow g = record {
  ends = λ k. ((λ h. wider k ((ends k).0 h)), (λ h. (ends k).1 (narrower k h)));
  next = λ a b text from names each.
      Names_same (λ c. (MayFollow a (drop from text) c ⊎ FollowsFrom places b text start stop c) ⊎ MayFollow b (drop stop text) c) (λ c. MayFollow a (drop from text) c ⊎ FollowsFrom places b text start (stop + 1) c) result.next (more a b text from) (fewer a b text from)
      (subst (NamesNext (λ c. (MayFollow a (drop from text) c ⊎ FollowsFrom places b text start stop c) ⊎ MayFollow b (drop stop text) c)) (sym follow)
      (Names_joined (λ c. MayFollow a (drop from text) c ⊎ FollowsFrom places b text start stop c) (MayFollow b (drop stop text)) row.next (row_at table stop).next
      (g.next a b text from names (λ r above below has. each r above (omega arith) has))
      (each stop order (omega arith) has)));
}
  where
    wider : (k : ℕ) → HasPlace row.ends k ⊎ HasPlace (row_at table stop).ends k → HasPlace first.ends k ⊎ AnyRow places table start (stop + 1) k
    wider k (inl h) = grown ((g.ends k).0 h)
      where
        grown : HasPlace first.ends k ⊎ AnyRow places table start stop k → HasPlace first.ends k ⊎ AnyRow places table start (stop + 1) k
        grown (inl f) = inl f
        grown (inr (r, above, below, at, ends)) = inr (r, above, omega arith, at, ends)
    wider k (inr h) = inr (stop, order, omega arith, has, h)

    narrower : (k : ℕ) → HasPlace first.ends k ⊎ AnyRow places table start (stop + 1) k → HasPlace row.ends k ⊎ HasPlace (row_at table stop).ends k
    narrower k (inl h) = inl ((g.ends k).1 (inl h))
    narrower k (inr (r, above, below, at, ends)) = elim (dec r stop) [ inl e ↦ inr (subst (λ (i : ℕ). HasPlace (row_at table i).ends k) e ends) | inr n ↦ inl ((g.ends k).1 (inr (r, above, omega arith, at, ends))) ]

    more : (a b : Pattern) (text : List ℕ) (from c : ℕ) → (MayFollow a (drop from text) c ⊎ FollowsFrom places b text start stop c) ⊎ MayFollow b (drop stop text) c → MayFollow a (drop from text) c ⊎ FollowsFrom places b text start (stop + 1) c
    more a b text from c (inl (inl f)) = inl f
    more a b text from c (inl (inr (r, above, below, at, f))) = inr (r, above, omega arith, at, f)
    more a b text from c (inr f) = inr (stop, order, omega arith, has, f)

    fewer : (a b : Pattern) (text : List ℕ) (from c : ℕ) → MayFollow a (drop from text) c ⊎ FollowsFrom places b text start (stop + 1) c → (MayFollow a (drop from text) c ⊎ FollowsFrom places b text start stop c) ⊎ MayFollow b (drop stop text) c
    fewer a b text from c (inl f) = inl (inl f)
    fewer a b text from c (inr (r, above, below, at, f)) = elim (dec r stop) [ inl e ↦ inr (subst (λ (i : ℕ). MayFollow b (drop i text) c) e f) | inr n ↦ inl (inr (r, above, omega arith, at, f)) ]

-- the places below the start don't matter where none is in the set
pub gathers_all : (places : Places) (table : Table) (start stop : ℕ) (first result : Row) → ((k : ℕ) → k < start → HasPlace places k → ⊥) → Gathers places table start stop first result → Gathers places table 0 stop first result
gathers_all places table start stop first result none g = record {
  ends = λ k. ((λ h. wider k ((g.ends k).0 h)), (λ h. (g.ends k).1 (narrower k h)));
  next = λ a b text from names each. Names_same (λ c. MayFollow a (drop from text) c ⊎ FollowsFrom places b text start stop c) (λ c. MayFollow a (drop from text) c ⊎ FollowsFrom places b text 0 stop c) result.next (more a b text from) (fewer a b text from) (g.next a b text from names (λ r above below has. each r (omega arith) below has));
}
  where
    high : (r : ℕ) → HasPlace places r → start ≤ r
    high r has = cases (leb_tells start r)
      where
        cases : ((nat_le start r ≡ true) × (start ≤ r)) ⊎ ((nat_le start r ≡ false) × (r < start)) → start ≤ r
        cases (inl (t, above)) = above
        cases (inr (t, low)) = absurd (none r low has)

    wider : (k : ℕ) → HasPlace first.ends k ⊎ AnyRow places table start stop k → HasPlace first.ends k ⊎ AnyRow places table 0 stop k
    wider k (inl h) = inl h
    wider k (inr (r, above, below, has, ends)) = inr (r, omega arith, below, has, ends)

    narrower : (k : ℕ) → HasPlace first.ends k ⊎ AnyRow places table 0 stop k → HasPlace first.ends k ⊎ AnyRow places table start stop k
    narrower k (inl h) = inl h
    narrower k (inr (r, above, below, has, ends)) = inr (r, high r has, below, has, ends)

    more : (a b : Pattern) (text : List ℕ) (from c : ℕ) → MayFollow a (drop from text) c ⊎ FollowsFrom places b text start stop c → MayFollow a (drop from text) c ⊎ FollowsFrom places b text 0 stop c
    more a b text from c (inl f) = inl f
    more a b text from c (inr (r, above, below, has, f)) = inr (r, omega arith, below, has, f)

    fewer : (a b : Pattern) (text : List ℕ) (from c : ℕ) → MayFollow a (drop from text) c ⊎ FollowsFrom places b text 0 stop c → MayFollow a (drop from text) c ⊎ FollowsFrom places b text start stop c
    fewer a b text from c (inl f) = inl f
    fewer a b text from c (inr (r, above, below, has, f)) = inr (r, high r has, below, has, f)

-- the places from one on, counted from it
abbrev pub IsRest : Places → Places → ℕ → Type 0
IsRest places rest place = (k : ℕ) → HasPlace rest k ↔ HasPlace places (place + k)

pub rest_here : (places rest : Places) (place : ℕ) → IsRest places rest place → HasPlace rest 0 ↔ HasPlace places place
rest_here places rest place h = subst (λ (i : ℕ). HasPlace rest 0 ↔ HasPlace places i) (omega arith) (h 0)

pub rest_more : (places rest next : Places) (place : ℕ) → IsRest places rest place → ((k : ℕ) → HasPlace next k ↔ HasPlace rest (1 + k)) → IsRest places next (place + 1)
rest_more places rest next place h step k =
    let e : place + (1 + k) ≡ place + 1 + k = omega arith in
    ((λ has. subst (HasPlace places) e ((h (1 + k)).0 ((step k).0 has))), (λ has. (step k).1 ((h (1 + k)).1 (subst (HasPlace places) (sym e) has))))

pub rest_none : (places rest : Places) (place : ℕ) → IsRest places rest place → ((k : ℕ) → 0 ≤ k → HasPlace rest k → ⊥) → (k : ℕ) → place ≤ k → HasPlace places k → ⊥
rest_none places rest place h none k above has =
    let e : k ≡ place + (k - place) = omega arith in
    none (k - place) (omega arith) ((h (k - place)).1 (subst (HasPlace places) e has))
