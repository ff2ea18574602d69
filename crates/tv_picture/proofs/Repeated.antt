-- The row of a sequence that ends with a repetition, from the row of what comes before and the table of what is repeated.
use Rattle.std.proofs.Common.{suc, zero, ◌≡◌, ◌≢◌, ◌⊎◌, inl, inr, ◌↔◌, ℕ, ◌+◌, ◌-◌, ◌<◌, ◌≤◌, List, [], ◌∷◌, ◌++◌, length, drop, arith, refl, ◌∙◌, sym, ap, subst, append_assoc, append-nil, length-append}
use Rattle.std.specs.List.{concat, All}
use Rattle.std.proofs.lemmas.List.Folds.{concat-append}
use Rattle.std.proofs.lemmas.List.Elements.{All-nil, All-cons, All-head, All-tail, All-append}
use Rattle.tv_picture.specs.declared.row.Row.{Row}
use Rattle.tv_picture.specs.declared.table.Table.{Table}
use Rattle.tv_picture.specs.Pattern.{Pattern, sequence, many, times, IsMember}
use Rattle.tv_picture.specs.Table.{HasPlace, NamesNext, either_next, Spans, MayFollow, IsTableRow, HasEachRow, Gathers}
use Rattle.tv_picture.proofs.Language.{Through, ThroughMany, follows_next, follows_many, next_of_left, next_of_right, joined_text, drop_past, end_within, times_zero, times_one, times-add}
use Rattle.tv_picture.proofs.Rows.{no_place, row_same, row_sequence, unended}
use Rattle.tv_picture.proofs.Gathered.{dec, Names_same, Names_joined}

-- what a prefix of the text leaves
pub past_start : (text u v : List ℕ) → text ≡ u ++ v → drop (length u) text ≡ v
past_start text u v e = let none : 0 + length u ≡ length u = omega arith in subst (λ (n : ℕ). drop n text ≡ v) none (drop_past text 0 u v e)

pub within_start : (text u v : List ℕ) → text ≡ u ++ v → length u ≤ length text
within_start text u v e = omega (arith, ap length e, length-append u v)

-- ---- any number of times

pub many_snoc : (b : Pattern) (y u : List ℕ) → IsMember (many b) y → IsMember b u → IsMember (many b) (y ++ u)
many_snoc b y u (pieces, all, e) m = (
  pieces ++ u ∷ [],
  All-append (IsMember b) pieces (u ∷ []) all (All-cons (IsMember b) u [] m (All-nil (IsMember b))),
  ap (λ x. x ++ u) e ∙ ap (λ x. concat pieces ++ x) (sym (append-nil u)) ∙ sym (concat-append pieces (u ∷ [])),
)

-- from the row so far, with what it began with, and the places below this one looked at
pub record IsGrown (a b : Pattern) (text : List ℕ) (first : Row) (place : ℕ) (row : Row) : Type 0 where
  pub sound : (k : ℕ) → HasPlace row.ends k → Spans (sequence a (many b)) text 0 k
  pub start : (k : ℕ) → HasPlace first.ends k → HasPlace row.ends k
  pub closed : (r : ℕ) → r < place → HasPlace row.ends r → (k : ℕ) → Spans b (drop r text) r k → HasPlace row.ends k
  pub next : NamesNext (λ c. MayFollow a text c ⊎ ((r : ℕ) × (r < place) × HasPlace row.ends r × MayFollow b (drop r text) c)) row.next

abbrev pub FollowsIn : Pattern → Pattern → List ℕ → ℕ → Row → ℕ → Type 0
FollowsIn a b text place row c = MayFollow a text c ⊎ ((r : ℕ) × (r < place) × HasPlace row.ends r × MayFollow b (drop r text) c)

pub grown_none : (a b : Pattern) (text : List ℕ) (first : Row) → IsTableRow a text 0 first → IsGrown a b text first 0 first
grown_none a b text first h = record {
  sound = λ k has. let s = (h.ends k).0 has in (s.0, s.1, (s.0, [], s.2, ([], All-nil (IsMember b), refl), sym (append-nil s.0)), s.3, s.4);
  start = λ k has. has;
  closed = λ r low. absurd (omega arith);
  next = Names_same (MayFollow a text) (FollowsIn a b text 0 first) first.next (λ c f. inl f) back h.next;
}
  where
    back : (c : ℕ) → FollowsIn a b text 0 first c → MayFollow a text c
    back c (inl f) = f
    back c (inr (r, low, has, f)) = absurd (omega arith)

pub spans_more : (a b : Pattern) (text : List ℕ) (r k : ℕ) → Spans (sequence a (many b)) text 0 r → Spans b (drop r text) r k → Spans (sequence a (many b)) text 0 k
spans_more a b text r k (u, v, (x, y, mx, my, eu), e, er) (u', v', m, e', ek) =
    let past : drop r text ≡ v = ap (λ (n : ℕ). drop n text) er ∙ drop_past text 0 u v e in
    let rest : v ≡ u' ++ v' = sym past ∙ e' in (
      u ++ u',
      v',
      (x, y ++ u', mx, many_snoc b y u' my m, ap (λ z. z ++ u') eu ∙ append_assoc x y u'),
      e ∙ ap (λ z. u ++ z) rest ∙ sym (append_assoc u u' v'),
      omega (arith, length-append u u'),
    )

-- a member ends where it begins or later
spans_on : (b : Pattern) (rest : List ℕ) (r k : ℕ) → Spans b rest r k → r ≤ k
spans_on b rest r k (u, v, m, e, ek) = omega arith

module _ (a b : Pattern) (text : List ℕ) (first : Row) where
  pub grown_more : (place : ℕ) (row own result : Row) → IsTableRow b (drop place text) place own → HasPlace row.ends place → ((k : ℕ) → HasPlace result.ends k ↔ (HasPlace row.ends k ⊎ HasPlace own.ends k)) → result.next ≡ either_next row.next own.next → IsGrown a b text first place row → IsGrown a b text first (place + 1) result
  grown_more place row own result here has ends follow g = record {
    sound = λ k at. sound k ((ends k).0 at);
    start = λ k at. (ends k).1 (inl (g.start k at));
    closed = λ r low at k end. closed r low at k end (dec r place);
    next = subst (NamesNext (FollowsIn a b text (place + 1) result)) (sym follow)
        (Names_same (λ c. FollowsIn a b text place row c ⊎ MayFollow b (drop place text) c) (FollowsIn a b text (place + 1) result) (either_next row.next own.next) forth back
        (Names_joined (FollowsIn a b text place row) (MayFollow b (drop place text)) row.next own.next g.next here.next));
  }
    where
      later : (k : ℕ) → HasPlace own.ends k → Spans b (drop place text) place k
      later k at = (here.ends k).0 at

      sound : (k : ℕ) → HasPlace row.ends k ⊎ HasPlace own.ends k → Spans (sequence a (many b)) text 0 k
      sound k (inl at) = g.sound k at
      sound k (inr at) = spans_more a b text place k (g.sound place has) (later k at)

      before : (r : ℕ) → r < place → HasPlace row.ends r ⊎ HasPlace own.ends r → HasPlace row.ends r
      before r low (inl at) = at
      before r low (inr at) = absurd (let on = spans_on b (drop place text) place r (later r at) in omega arith)

      closed : (r : ℕ) → r < place + 1 → HasPlace result.ends r → (k : ℕ) → Spans b (drop r text) r k → (r ≡ place) ⊎ (r ≢ place) → HasPlace result.ends k
      closed r low at k end (inl same) = (ends k).1 (inr ((here.ends k).1 (subst (λ (i : ℕ). Spans b (drop i text) i k) same end)))
      closed r low at k end (inr other) = let lower : r < place = omega arith in (ends k).1 (inl (g.closed r lower (before r lower ((ends r).0 at)) k end))

      forth : (c : ℕ) → FollowsIn a b text place row c ⊎ MayFollow b (drop place text) c → FollowsIn a b text (place + 1) result c
      forth c (inl (inl f)) = inl f
      forth c (inl (inr (r, low, at, f))) = inr (r, omega arith, (ends r).1 (inl at), f)
      forth c (inr f) = inr (place, omega arith, (ends place).1 (inl has), f)

      back : (c : ℕ) → FollowsIn a b text (place + 1) result c → FollowsIn a b text place row c ⊎ MayFollow b (drop place text) c
      back c (inl f) = inl (inl f)
      back c (inr (r, low, at, f)) = cases (dec r place)
        where
          cases : (r ≡ place) ⊎ (r ≢ place) → FollowsIn a b text place row c ⊎ MayFollow b (drop place text) c
          cases (inl same) = inr (subst (λ (i : ℕ). MayFollow b (drop i text) c) same f)
          cases (inr other) = let lower : r < place = omega arith in inl (inr (r, lower, before r lower ((ends r).0 at), f))

  pub grown_skip : (place : ℕ) (row : Row) → (HasPlace row.ends place → ⊥) → IsGrown a b text first place row → IsGrown a b text first (place + 1) row
  grown_skip place row absent g = record {
    sound = g.sound;
    start = g.start;
    closed = λ r low at k end. g.closed r (lower r low at) at k end;
    next = Names_same (FollowsIn a b text place row) (FollowsIn a b text (place + 1) row) row.next forth back g.next;
  }
    where
      lower : (r : ℕ) → r < place + 1 → HasPlace row.ends r → r < place
      lower r low at = let other : r ≢ place = λ e. absent (subst (HasPlace row.ends) e at) in omega arith

      forth : (c : ℕ) → FollowsIn a b text place row c → FollowsIn a b text (place + 1) row c
      forth c (inl f) = inl f
      forth c (inr (r, low, at, f)) = inr (r, omega arith, at, f)

      back : (c : ℕ) → FollowsIn a b text (place + 1) row c → FollowsIn a b text place row c
      back c (inl f) = inl f
      back c (inr (r, low, at, f)) = inr (r, lower r low at, at, f)

  module _ (h : IsTableRow a text 0 first) (row : Row) (g : IsGrown a b text first (length text + 1) row) where
    further : (r : ℕ) (u v : List ℕ) → r ≤ length text → HasPlace row.ends r → drop r text ≡ u ++ v → IsMember b u → HasPlace row.ends (r + length u)
    further r u v within at e m = g.closed r (omega arith) at (r + length u) (u, v, m, e, refl)

    walks : (pieces : List (List ℕ)) (v : List ℕ) (r k : ℕ) → r ≤ length text → HasPlace row.ends r → drop r text ≡ concat pieces ++ v → All (IsMember b) pieces → k ≡ r + length (concat pieces) → HasPlace row.ends k
    walks [] v r k within at e all ek = let same : r ≡ k = omega arith in subst (HasPlace row.ends) same at
    walks (p ∷ ps) v r k within at e all ek =
        let whole : drop r text ≡ p ++ (concat ps ++ v) = e ∙ append_assoc p (concat ps) v in
        walks ps v (r + length p) k (end_within text r p (concat ps ++ v) within whole) (further r p (concat ps ++ v) within at whole (All-head (IsMember b) p ps all)) (drop_past text r p (concat ps ++ v) whole) (All-tail (IsMember b) p ps all) (omega (arith, length-append p (concat ps)))

    reached : (k : ℕ) → Spans (sequence a (many b)) text 0 k → HasPlace row.ends k
    reached k (w, v, (x, y, mx, (pieces, all, ey), ew), e, ek) =
        let whole : text ≡ x ++ (y ++ v) = e ∙ ap (λ z. z ++ v) ew ∙ append_assoc x y v in
        walks pieces v (length x) k (within_start text x (y ++ v) whole) (g.start (length x) ((h.ends (length x)).1 (x, y ++ v, mx, whole, omega arith))) (past_start text x (y ++ v) whole ∙ ap (λ z. z ++ v) ey) all (omega (arith, ap length ew, ap length ey, length-append x y))

    abbrev Found : ℕ → Type 0
    Found c = (r : ℕ) × (r < length text + 1) × HasPlace row.ends r × MayFollow b (drop r text) c

    -- a character that follows somewhere follows at a place of the row
    abbrev Finds : ℕ → ℕ → Type 0
    Finds n c = (r : ℕ) (v : List ℕ) → length v ≤ n → r ≤ length text → HasPlace row.ends r → drop r text ≡ v → MayFollow (many b) v c → Found c

    finds_with : (n c : ℕ) → ((k : ℕ) → n ≡ k + 1 → Finds k c) → Finds n c
    finds_with n c again r v few within at e f = cases (follows_many b v c f)
      where
        cases : MayFollow b v c ⊎ ThroughMany b v c → Found c
        cases (inl g') = (r, omega arith, at, subst (λ (t : List ℕ). MayFollow b t c) (sym e) g')
        cases (inr (x, u, v', m, ev, g')) =
            let whole : drop r text ≡ (x ∷ u) ++ v' = e ∙ ev in
            let shorter : length v ≡ length (x ∷ u) + length v' = ap length ev ∙ length-append (x ∷ u) v' in
            let some : n ≡ (n - 1) + 1 = omega arith in
            again (n - 1) some (r + length (x ∷ u)) v' (omega arith) (end_within text r (x ∷ u) v' within whole) (further r (x ∷ u) v' within at whole m) (drop_past text r (x ∷ u) v' whole) g'

    finds : (n c : ℕ) → Finds n c
    finds zero c = finds_with zero c (λ k e. absurd (omega arith))
    finds (suc n) c = finds_with (suc n) c (λ k e. let same : n ≡ k = omega arith in subst (λ (j : ℕ). Finds j c) same (finds n c))

    pub row_grown : IsTableRow (sequence a (many b)) text 0 row
    row_grown = record {
      ends = λ to. ((λ at. g.sound to at), (λ s. reached to s));
      next = Names_same (FollowsIn a b text (length text + 1) row) (MayFollow (sequence a (many b)) text) row.next forth back g.next;
    }
      where
        forth : (c : ℕ) → FollowsIn a b text (length text + 1) row c → MayFollow (sequence a (many b)) text c
        forth c (inl f) = next_of_left a (many b) text c f
        forth c (inr (r, low, at, f)) = joins (g.sound r at) f
          where
            joins : Spans (sequence a (many b)) text 0 r → MayFollow b (drop r text) c → MayFollow (sequence a (many b)) text c
            joins (w, v, (x, y, mx, my, ew), e, er) (more, m) =
                let past : drop r text ≡ v = ap (λ (n : ℕ). drop n text) er ∙ drop_past text 0 w v e in
                let mb : IsMember b ((v ++ c ∷ []) ++ more) = subst (λ (t : List ℕ). IsMember b ((t ++ c ∷ []) ++ more)) past m in
                let whole : text ≡ x ++ (y ++ v) = e ∙ ap (λ z. z ++ v) ew ∙ append_assoc x y v in
                next_of_right a (many b) text c (x, y ++ v, mx, whole, (more, subst (IsMember (many b)) (sym (joined_text y v (y ++ v) c more refl)) (many_snoc b y ((v ++ c ∷ []) ++ more) my mb)))

        back : (c : ℕ) → MayFollow (sequence a (many b)) text c → FollowsIn a b text (length text + 1) row c
        back c f = cases (follows_next a (many b) text c f)
          where
            cases : MayFollow a text c ⊎ Through a (many b) text c → FollowsIn a b text (length text + 1) row c
            cases (inl f') = inl f'
            cases (inr (u, v, m, e, f')) = inr (finds (length v) c (length u) v (omega arith) (within_start text u v e) (g.start (length u) ((h.ends (length u)).1 (u, v, m, e, omega arith))) (past_start text u v e) f')

-- ---- so many times

-- the row stands for so many repetitions after what came before
abbrev pub Counted : Table → Row → ℕ → Row → ℕ → Type 0
Counted table first len row i = (a b : Pattern) (text : List ℕ) → length text ≡ len → IsTableRow a text 0 first → HasEachRow b text table → IsTableRow (sequence a (times i b)) text 0 row

pub counted_none : (table : Table) (first : Row) (len : ℕ) → Counted table first len first 0
counted_none table first len a b text same h each = row_same a (sequence a (times 0 b)) text 0 first (λ t. (forth t, back t)) h
  where
    forth : (t : List ℕ) → IsMember a t → IsMember (sequence a (times 0 b)) t
    forth t m = (t, [], m, (times_zero b []).0 refl, sym (append-nil t))

    back : (t : List ℕ) → IsMember (sequence a (times 0 b)) t → IsMember a t
    back t (x, y, mx, my, e) = subst (IsMember a) (sym (e ∙ ap (λ z. x ++ z) ((times_zero b y).1 my) ∙ append-nil x)) mx

pub counted_again : (a b : Pattern) (i : ℕ) (t : List ℕ) → IsMember (sequence (sequence a (times i b)) b) t ↔ IsMember (sequence a (times (i + 1) b)) t
counted_again a b i t = (forth, back)
  where
    forth : IsMember (sequence (sequence a (times i b)) b) t → IsMember (sequence a (times (i + 1) b)) t
    forth (w, z, (x, y, mx, my, ew), mz, e) = (x, y ++ z, mx, (times-add i 1 b (y ++ z)).0 (y, z, my, (times_one b z).0 mz, refl), e ∙ ap (λ v. v ++ z) ew ∙ append_assoc x y z)

    back : IsMember (sequence a (times (i + 1) b)) t → IsMember (sequence (sequence a (times i b)) b) t
    back (x, w, mx, mw, e) = apart ((times-add i 1 b w).1 mw)
      where
        apart : IsMember (sequence (times i b) (times 1 b)) w → IsMember (sequence (sequence a (times i b)) b) t
        apart (y, z, my, mz, ew) = (x ++ y, z, (x, y, mx, my, refl), (times_one b z).1 mz, e ∙ ap (λ v. x ++ v) ew ∙ sym (append_assoc x y z))

-- one more
pub counted_more : (table : Table) (first row start result : Row) (len i : ℕ) → start ≡ unended row → Gathers row.ends table 0 (len + 1) start result → Counted table first len row i → Counted table first len result (i + 1)
counted_more table first row start result len i none g so_far a b text same h each =
    row_same (sequence (sequence a (times i b)) b) (sequence a (times (i + 1) b)) text 0 result (counted_again a b i)
    (row_sequence (sequence a (times i b)) b text row table 0 start result (omega arith) (so_far a b text same h each) each (λ k at. no_place k (subst (λ (f : Row). HasPlace f.ends k) none at)) (ap (λ (f : Row). f.next) none)
    (subst (λ (n : ℕ). Gathers row.ends table 0 (n + 1) start result) (sym same) g))

-- a row that one more leaves as it is stands for any more
pub counted_rest : (more : ℕ) (table : Table) (first row start : Row) (len i : ℕ) → start ≡ unended row → Gathers row.ends table 0 (len + 1) start row → Counted table first len row i → Counted table first len row (i + more)
counted_rest zero table first row start len i none g so_far = subst (λ (n : ℕ). Counted table first len row n) (omega arith) so_far
counted_rest (suc more) table first row start len i none g so_far =
    subst (λ (n : ℕ). Counted table first len row n) (omega arith) (counted_rest more table first row start len (i + 1) none g (counted_more table first row start row len i none g so_far))
