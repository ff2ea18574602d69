-- Rows and tables of a pattern from those of its parts.
use Rattle.std.proofs.Common.{suc, zero, ◌≡◌, ◌≢◌, ◌⊎◌, inl, inr, ◌↔◌, ℕ, ◌+◌, ◌-◌, ◌*◌, ◌<◌, ◌≤◌, List, [], ◌∷◌, ◌++◌, length, drop, arith, refl, ◌∙◌, sym, ap, subst, append_assoc, length-append, get_or}
use Rattle.std.proofs.lemmas.List.{get_or-set_same, get_or-set_other, set-get_or}
use Rattle.std.proofs.Math.ListN.{set}
use Rattle.std.proofs.Math.Seq.{drop-cons, drop-length}
use Rattle.std.proofs.lemmas.List.Elements.{All-nil}
use Rattle.tv_picture.specs.declared.code.Mark.{Mark}
use Rattle.tv_picture.specs.declared.places.Places.{Places}
use Rattle.tv_picture.specs.declared.row.Next.TheVariants.{Nothing}
use Rattle.tv_picture.specs.declared.row.Row.{Row}
use Rattle.tv_picture.specs.declared.table.Table.{Table}
use Rattle.tv_picture.specs.Pattern.{Pattern, empty, one, sequence, either, optional, many, times, Allows, IsMember}
use Rattle.tv_picture.specs.Table.{HasPlace, NamesNext, either_next, Spans, MayFollow, IsTableRow, HasEachRow, FollowsFrom, AnyRow, Gathers, row_at, no_row}
use Rattle.tv_picture.proofs.Language.{Through, follows_next, next_of_left, next_of_right, many_cons, many_parted, Parted, ThroughMany, follows_many, many_of_first, many_of_later, times_zero, times_one, times-add, drop_past, end_within, no_end}
use Rattle.tv_picture.proofs.Gathered.{dec, Names_same, Names_joined, gathers_all}

-- ---- tables

-- what two patterns with the same members have alike
pub row_same : (a b : Pattern) (rest : List ℕ) (from : ℕ) (row : Row) → ((t : List ℕ) → IsMember a t ↔ IsMember b t) → IsTableRow a rest from row → IsTableRow b rest from row
row_same a b rest from row same h = record {
  ends = λ to. ((λ has. forth to ((h.ends to).0 has)), (λ s. (h.ends to).1 (back to s)));
  next = Names_same (MayFollow a rest) (MayFollow b rest) row.next
      (λ c f. (f.0, (same ((rest ++ c ∷ []) ++ f.0)).0 f.1))
      (λ c f. (f.0, (same ((rest ++ c ∷ []) ++ f.0)).1 f.1))
      h.next;
}
  where
    forth : (to : ℕ) → Spans a rest from to → Spans b rest from to
    forth to (u, v, m, e, eto) = (u, v, (same u).0 m, e, eto)

    back : (to : ℕ) → Spans b rest from to → Spans a rest from to
    back to (u, v, m, e, eto) = (u, v, (same u).1 m, e, eto)

pub Covers_same : (a b : Pattern) (text : List ℕ) (table : Table) → ((t : List ℕ) → IsMember a t ↔ IsMember b t) → HasEachRow a text table → HasEachRow b text table
Covers_same a b text table same h = record { at = λ from within. row_same a b (drop from text) from (row_at table from) same (h.at from within) }

-- a member of the sequence, cut where its second part begins
abbrev pub Meets : Pattern → Pattern → List ℕ → ℕ → ℕ → Type 0
Meets a b text from to = (r : ℕ) × (from ≤ r) × (r ≤ length text) × Spans a (drop from text) from r × Spans b (drop r text) r to

pub spans_parted : (a b : Pattern) (text : List ℕ) (from to : ℕ) → from ≤ length text → Spans (sequence a b) (drop from text) from to → Meets a b text from to
spans_parted a b text from to within (w, v, (u, u', m, m', ew), e, eto) =
    let whole : drop from text ≡ u ++ (u' ++ v) = e ∙ ap (λ x. x ++ v) ew ∙ append_assoc u u' v in (
      from + length u,
      omega arith,
      end_within text from u (u' ++ v) within whole,
      (u, u' ++ v, m, whole, refl),
      (u', v, m', drop_past text from u (u' ++ v) whole, omega (arith, ap length ew, length-append u u')),
    )

pub spans_met : (a b : Pattern) (text : List ℕ) (from to : ℕ) → Meets a b text from to → Spans (sequence a b) (drop from text) from to
spans_met a b text from to (r, above, below, (u, v, m, e, er), (u', v', m', e', eto)) =
    let past : drop r text ≡ v = ap (λ (k : ℕ). drop k text) er ∙ drop_past text from u v e in
    let rest : v ≡ u' ++ v' = sym past ∙ e' in
    (u ++ u', v', (u, u', m, m', refl), e ∙ ap (λ x. u ++ x) rest ∙ sym (append_assoc u u' v'), omega (arith, length-append u u'))

abbrev pub blank_ends : Places
blank_ends = record { bits = 0 }

pub no_place : (k : ℕ) → HasPlace blank_ends k → ⊥
no_place k h = h (grind (arith))

pub through_at : (a b : Pattern) (text : List ℕ) (from c : ℕ) → from ≤ length text → Through a b (drop from text) c → (r : ℕ) × (r ≤ length text) × Spans a (drop from text) from r × MayFollow b (drop r text) c
through_at a b text from c within (u, v, m, e, f) =
    (from + length u, end_within text from u v within e, (u, v, m, e, refl), subst (λ (x : List ℕ). MayFollow b x c) (sym (drop_past text from u v e)) f)

pub at_through : (a b : Pattern) (text : List ℕ) (from r c : ℕ) → Spans a (drop from text) from r → MayFollow b (drop r text) c → Through a b (drop from text) c
at_through a b text from r c (u, v, m, e, er) f =
    let past : drop r text ≡ v = ap (λ (k : ℕ). drop k text) er ∙ drop_past text from u v e in
    (u, v, m, e, subst (λ (x : List ℕ). MayFollow b x c) past f)

-- ---- the row of a sequence

-- from what is at the ends of the first part's row
pub row_sequence_of : (a b : Pattern) (text : List ℕ) (start : Row) (B : Table) (from : ℕ) (result : Row) → from ≤ length text → IsTableRow a (drop from text) from start → HasEachRow b text B → ((k : ℕ) → HasPlace result.ends k ↔ AnyRow start.ends B 0 (length text + 1) k) → NamesNext (λ c. MayFollow a (drop from text) c ⊎ FollowsFrom start.ends b text 0 (length text + 1) c) result.next → IsTableRow (sequence a b) (drop from text) from result
row_sequence_of a b text start B from result within ca cb ends names = record {
  ends = λ to. ((λ h. spans_met a b text from to (met to ((ends to).0 h))), (λ s. (ends to).1 (parted to (spans_parted a b text from to within s))));
  next = Names_same (λ c. MayFollow a (drop from text) c ⊎ FollowsFrom start.ends b text 0 (length text + 1) c) (MayFollow (sequence a b) (drop from text)) result.next forth back names;
}
  where
    met : (to : ℕ) → AnyRow start.ends B 0 (length text + 1) to → Meets a b text from to
    met to (r, above, below, at, end) =
        let s = (ca.ends r).0 at in
        (r, (let e = s.4 in omega arith), omega arith, s, ((cb.at r (omega arith)).ends to).0 end)

    parted : (to : ℕ) → Meets a b text from to → AnyRow start.ends B 0 (length text + 1) to
    parted to (r, above, below, s, s') = (r, omega arith, omega arith, (ca.ends r).1 s, ((cb.at r below).ends to).1 s')

    forth : (c : ℕ) → MayFollow a (drop from text) c ⊎ FollowsFrom start.ends b text 0 (length text + 1) c → MayFollow (sequence a b) (drop from text) c
    forth c (inl f) = next_of_left a b (drop from text) c f
    forth c (inr (r, above, below, has, f)) = next_of_right a b (drop from text) c (at_through a b text from r c ((ca.ends r).0 has) f)

    held : (c : ℕ) → Through a b (drop from text) c → FollowsFrom start.ends b text 0 (length text + 1) c
    held c t = let p = through_at a b text from c within t in (p.0, omega arith, (let h : p.0 ≤ length text = p.1 in omega arith), (ca.ends p.0).1 p.2, p.3)

    back : (c : ℕ) → MayFollow (sequence a b) (drop from text) c → MayFollow a (drop from text) c ⊎ FollowsFrom start.ends b text 0 (length text + 1) c
    back c f = cases (follows_next a b (drop from text) c f)
      where
        cases : MayFollow a (drop from text) c ⊎ Through a b (drop from text) c → MayFollow a (drop from text) c ⊎ FollowsFrom start.ends b text 0 (length text + 1) c
        cases (inl h) = inl h
        cases (inr h) = inr (held c h)

pub row_sequence : (a b : Pattern) (text : List ℕ) (start : Row) (B : Table) (from : ℕ) (first result : Row) → from ≤ length text → IsTableRow a (drop from text) from start → HasEachRow b text B → ((k : ℕ) → HasPlace first.ends k → ⊥) → first.next ≡ start.next → Gathers start.ends B from (length text + 1) first result → IsTableRow (sequence a b) (drop from text) from result
row_sequence a b text start B from first result within ca cb none follow g =
    let all : Gathers start.ends B 0 (length text + 1) first result = gathers_all start.ends B from (length text + 1) first result (λ k low has. let e = ((ca.ends k).0 has).4 in omega arith) g in
    row_sequence_of a b text start B from result within ca cb (λ k. ((λ h. past k ((all.ends k).0 h)), (λ h. (all.ends k).1 (inr h))))
    (all.next a b text from (subst (NamesNext (MayFollow a (drop from text))) (sym follow) ca.next) (λ r above below has. (cb.at r (omega arith)).next))
  where
    past : (k : ℕ) → HasPlace first.ends k ⊎ AnyRow start.ends B 0 (length text + 1) k → AnyRow start.ends B 0 (length text + 1) k
    past k (inl h) = absurd (none k h)
    past k (inr h) = h

-- ---- the row of a repetition

pub row_many : (a : Pattern) (text : List ℕ) (A T : Table) (from : ℕ) (first result : Row) → from ≤ length text → HasEachRow a text A → ((p : ℕ) → from < p → p ≤ length text → IsTableRow (many a) (drop p text) p (row_at T p)) → ((k : ℕ) → HasPlace first.ends k ↔ (k ≡ from)) → first.next ≡ (row_at A from).next → Gathers (row_at A from).ends T (from + 1) (length text + 1) first result → IsTableRow (many a) (drop from text) from result
row_many a text A T from first result within ca later own follow g = record {
  ends = λ to. ((λ h. met to ((g.ends to).0 h)), (λ s. (g.ends to).1 (parted to s)));
  next = Names_same (λ c. MayFollow a (drop from text) c ⊎ FollowsFrom (row_at A from).ends (many a) text (from + 1) (length text + 1) c) (MayFollow (many a) (drop from text)) result.next forth back
      (g.next a (many a) text from (subst (NamesNext (MayFollow a (drop from text))) (sym follow) (ca.at from within).next) (λ r above below has. (later r (omega arith) (omega arith)).next));
}
  where
    met : (to : ℕ) → HasPlace first.ends to ⊎ AnyRow (row_at A from).ends T (from + 1) (length text + 1) to → Spans (many a) (drop from text) from to
    met to (inl h) = ([], drop from text, ([], All-nil (IsMember a), refl), refl, (let e : to ≡ from = (own to).0 h in omega arith))
    met to (inr (r, above, below, at, ends)) = joined_up (((ca.at from within).ends r).0 at) (((later r (omega arith) (omega arith)).ends to).0 ends)
      where
        joined_up : Spans a (drop from text) from r → Spans (many a) (drop r text) r to → Spans (many a) (drop from text) from to
        joined_up (u, v, m, e, er) (u', v', m', e', eto) =
            let past : drop r text ≡ v = ap (λ (k : ℕ). drop k text) er ∙ drop_past text from u v e in
            let rest : v ≡ u' ++ v' = sym past ∙ e' in
            (u ++ u', v', many_cons a u u' m m', e ∙ ap (λ x. u ++ x) rest ∙ sym (append_assoc u u' v'), omega (arith, length-append u u'))

    parted : (to : ℕ) → Spans (many a) (drop from text) from to → HasPlace first.ends to ⊎ AnyRow (row_at A from).ends T (from + 1) (length text + 1) to
    parted to (w, v, m, e, eto) = cases (many_parted a w m)
      where
        cases : (w ≡ []) ⊎ Parted a w → HasPlace first.ends to ⊎ AnyRow (row_at A from).ends T (from + 1) (length text + 1) to
        cases (inl none) = inl ((own to).1 (omega (arith, ap length none)))
        cases (inr (x, u, u', m', mv, ew)) =
            let whole : drop from text ≡ (x ∷ u) ++ (u' ++ v) = e ∙ ap (λ y. y ++ v) ew ∙ append_assoc (x ∷ u) u' v in
            let inside : from + length (x ∷ u) ≤ length text = end_within text from (x ∷ u) (u' ++ v) within whole in
            inr (
              from + length (x ∷ u),
              omega arith,
              omega arith,
              ((ca.at from within).ends (from + length (x ∷ u))).1 (x ∷ u, u' ++ v, m', whole, refl),
              ((later (from + length (x ∷ u)) (omega arith) inside).ends to).1 (u', v, mv, drop_past text from (x ∷ u) (u' ++ v) whole, omega (arith, ap length ew, length-append (x ∷ u) u')),
            )

    forth : (c : ℕ) → MayFollow a (drop from text) c ⊎ FollowsFrom (row_at A from).ends (many a) text (from + 1) (length text + 1) c → MayFollow (many a) (drop from text) c
    forth c (inl f) = many_of_first a (drop from text) c f
    forth c (inr (r, above, below, has, f)) = many_of_later a (drop from text) c (at_through a (many a) text from r c (((ca.at from within).ends r).0 has) f)

    held : (c : ℕ) → ThroughMany a (drop from text) c → FollowsFrom (row_at A from).ends (many a) text (from + 1) (length text + 1) c
    held c (x, u, v, m, e, f) =
        let inside : from + length (x ∷ u) ≤ length text = end_within text from (x ∷ u) v within e in
        (from + length (x ∷ u), omega arith, omega arith, ((ca.at from within).ends (from + length (x ∷ u))).1 (x ∷ u, v, m, e, refl), subst (λ (y : List ℕ). MayFollow (many a) y c) (sym (drop_past text from (x ∷ u) v e)) f)

    back : (c : ℕ) → MayFollow (many a) (drop from text) c → MayFollow a (drop from text) c ⊎ FollowsFrom (row_at A from).ends (many a) text (from + 1) (length text + 1) c
    back c f = cases (follows_many a (drop from text) c f)
      where
        cases : MayFollow a (drop from text) c ⊎ ThroughMany a (drop from text) c → MayFollow a (drop from text) c ⊎ FollowsFrom (row_at A from).ends (many a) text (from + 1) (length text + 1) c
        cases (inl h) = inl h
        cases (inr h) = inr (held c h)

-- ---- the rows of alternatives, options, the empty sequence and one character

pub row_either : (a b : Pattern) (rest : List ℕ) (from : ℕ) (p q result : Row) → IsTableRow a rest from p → IsTableRow b rest from q → ((k : ℕ) → HasPlace result.ends k ↔ (HasPlace p.ends k ⊎ HasPlace q.ends k)) → result.next ≡ either_next p.next q.next → IsTableRow (either a b) rest from result
row_either a b rest from p q result hp hq ends follow = record {
  ends = λ to. ((λ h. forth to ((ends to).0 h)), (λ s. (ends to).1 (back to s)));
  next = Names_same (λ c. MayFollow a rest c ⊎ MayFollow b rest c) (MayFollow (either a b) rest) result.next wide narrow (subst (NamesNext (λ c. MayFollow a rest c ⊎ MayFollow b rest c)) (sym follow) (Names_joined (MayFollow a rest) (MayFollow b rest) p.next q.next hp.next hq.next));
}
  where
    forth : (to : ℕ) → HasPlace p.ends to ⊎ HasPlace q.ends to → Spans (either a b) rest from to
    forth to (inl h) = let s = (hp.ends to).0 h in (s.0, s.1, inl s.2, s.3, s.4)
    forth to (inr h) = let s = (hq.ends to).0 h in (s.0, s.1, inr s.2, s.3, s.4)

    back : (to : ℕ) → Spans (either a b) rest from to → HasPlace p.ends to ⊎ HasPlace q.ends to
    back to (u, v, inl m, e, eto) = inl ((hp.ends to).1 (u, v, m, e, eto))
    back to (u, v, inr m, e, eto) = inr ((hq.ends to).1 (u, v, m, e, eto))

    wide : (c : ℕ) → MayFollow a rest c ⊎ MayFollow b rest c → MayFollow (either a b) rest c
    wide c (inl f) = (f.0, inl f.1)
    wide c (inr f) = (f.0, inr f.1)

    narrow : (c : ℕ) → MayFollow (either a b) rest c → MayFollow a rest c ⊎ MayFollow b rest c
    narrow c (more, inl m) = inl (more, m)
    narrow c (more, inr m) = inr (more, m)

-- the row that stays where it is
pub row_empty : (rest : List ℕ) (from : ℕ) (result : Row) → ((k : ℕ) → HasPlace result.ends k ↔ (k ≡ from)) → result.next ≡ Nothing → IsTableRow empty rest from result
row_empty rest from result ends follow = record {
  ends = λ to. ((λ h. let e : to ≡ from = (ends to).0 h in ([], rest, refl, refl, omega arith)), (λ s. (ends to).1 (back to s)));
  next = subst (NamesNext (MayFollow empty rest)) (sym follow) (λ c f. no_end rest c f.0 f.1);
}
  where
    back : (to : ℕ) → Spans empty rest from to → to ≡ from
    back to (u, v, m, e, eto) = omega (arith, ap length m)

pub row_optional : (a : Pattern) (rest : List ℕ) (from : ℕ) (p result : Row) → IsTableRow a rest from p → IsTableRow (either a empty) rest from result → IsTableRow (optional a) rest from result
row_optional a rest from p result hp h = record {
  ends = λ to. ((λ has. forth to ((h.ends to).0 has)), (λ s. (h.ends to).1 (back to s)));
  next = Names_same (MayFollow (either a empty) rest) (MayFollow (optional a) rest) result.next wide narrow h.next;
}
  where
    forth : (to : ℕ) → Spans (either a empty) rest from to → Spans (optional a) rest from to
    forth to (u, v, inl m, e, eto) = (u, v, inr m, e, eto)
    forth to (u, v, inr m, e, eto) = (u, v, inl m, e, eto)

    back : (to : ℕ) → Spans (optional a) rest from to → Spans (either a empty) rest from to
    back to (u, v, inl m, e, eto) = (u, v, inr m, e, eto)
    back to (u, v, inr m, e, eto) = (u, v, inl m, e, eto)

    wide : (c : ℕ) → MayFollow (either a empty) rest c → MayFollow (optional a) rest c
    wide c (more, inl m) = (more, inr m)
    wide c (more, inr m) = (more, inl m)

    narrow : (c : ℕ) → MayFollow (optional a) rest c → MayFollow (either a empty) rest c
    narrow c (more, inl m) = (more, inr m)
    narrow c (more, inr m) = (more, inl m)

pub one_follows : (m : Mark) (rest : List ℕ) (c : ℕ) → MayFollow (one m) rest c → (rest ≡ []) × Allows m c
one_follows m [] c (more, (d, allows, e)) = (refl, (let same : c ≡ d = cc in subst (Allows m) (sym same) allows))
one_follows m (x ∷ []) c (more, (d, allows, e)) = absurd (omega (arith, ap length e))
one_follows m (x ∷ y ∷ rest) c (more, (d, allows, e)) = absurd (omega (arith, ap length e))

-- before the end: the next character, where it is allowed
pub row_one : (m : Mark) (x : ℕ) (rest : List ℕ) (from : ℕ) (result : Row) → ((k : ℕ) → HasPlace result.ends k ↔ (Allows m x × (k ≡ from + 1))) → result.next ≡ Nothing → IsTableRow (one m) (x ∷ rest) from result
row_one m x rest from result ends follow = record {
  ends = λ to. ((λ h. forth to ((ends to).0 h)), (λ s. (ends to).1 (back to s)));
  next = subst (NamesNext (MayFollow (one m) (x ∷ rest))) (sym follow) (λ c f. absurd (no_cons (one_follows m (x ∷ rest) c f).0));
}
  where
    no_cons : x ∷ rest ≡ [] → ⊥
    no_cons e = cc

    forth : (to : ℕ) → Allows m x × (to ≡ from + 1) → Spans (one m) (x ∷ rest) from to
    forth to (allows, e) = (x ∷ [], rest, (x, allows, refl), refl, omega arith)

    back : (to : ℕ) → Spans (one m) (x ∷ rest) from to → Allows m x × (to ≡ from + 1)
    back to (u, v, (c, allows, eu), e, eto) =
        let whole : x ∷ rest ≡ c ∷ v = e ∙ ap (λ y. y ++ v) eu in
        let same : x ≡ c = cc in
        (subst (Allows m) (sym same) allows, omega (arith, ap length eu))

-- at the end: nothing yet
pub row_one_end : (m : Mark) (from : ℕ) (result : Row) → ((k : ℕ) → HasPlace result.ends k → ⊥) → NamesNext (Allows m) result.next → IsTableRow (one m) [] from result
row_one_end m from result ends names = record {
  ends = λ to. ((λ h. absurd (ends to h)), (λ s. absurd (back to s)));
  next = Names_same (Allows m) (MayFollow (one m) []) result.next (λ c allows. ([], (c, allows, refl))) (λ c f. (one_follows m [] c f).1) names;
}
  where
    back : (to : ℕ) → Spans (one m) [] from to → ⊥
    back to (u, v, (c, allows, eu), e, eto) = omega (arith, ap length eu, ap length e, length-append u v)

-- ---- tables row by row

pub record IsRows (a : Pattern) (text : List ℕ) (table : Table) (from stop : ℕ) : Type 0 where
  pub at : (p : ℕ) → from ≤ p → p < stop → p ≤ length text → IsTableRow a (drop p text) p (row_at table p)

pub rows_none : (a : Pattern) (text : List ℕ) (table : Table) (k : ℕ) → IsRows a text table k k
rows_none a text table k = record { at = λ p above below within. absurd (omega arith) }

pub rows_more : (a : Pattern) (text : List ℕ) (table : Table) (from stop : ℕ) (row : Row) → stop < length table.rows → IsRows a text table from stop → (stop ≤ length text → IsTableRow a (drop stop text) stop row) → IsRows a text (record { rows = set table.rows stop row }) from (stop + 1)
rows_more a text table from stop row fits h here = record {
  at = λ p above below within. elim (dec p stop) [
    | inl e ↦ subst (λ (q : ℕ). IsTableRow a (drop q text) q (get_or (set table.rows stop row) q no_row)) (sym e) (subst (IsTableRow a (drop stop text) stop) (sym (get_or-set_same table.rows stop row no_row fits)) (here (omega arith)))
    | inr n ↦ subst (IsTableRow a (drop p text) p) (sym (get_or-set_other table.rows stop p row no_row n)) (h.at p above (omega arith) within)
  ];
}

pub rows_before : (a : Pattern) (text : List ℕ) (table : Table) (from start stop : ℕ) (row : Row) → from < length table.rows → start ≡ from + 1 → IsRows a text table start stop → IsTableRow a (drop from text) from row → IsRows a text (record { rows = set table.rows from row }) from stop
rows_before a text table from start stop row fits next_to h here = record {
  at = λ p above below within. elim (dec p from) [
    | inl e ↦ subst (λ (q : ℕ). IsTableRow a (drop q text) q (get_or (set table.rows from row) q no_row)) (sym e) (subst (IsTableRow a (drop from text) from) (sym (get_or-set_same table.rows from row no_row fits)) here)
    | inr n ↦ subst (IsTableRow a (drop p text) p) (sym (get_or-set_other table.rows from p row no_row n)) (h.at p (omega arith) below within)
  ];
}

-- ---- tables changed in place

-- from a place on, the rows are as they were
pub record IsKept (old new : Table) (from : ℕ) : Type 0 where
  pub at : (p : ℕ) → from ≤ p → row_at new p ≡ row_at old p

pub kept_all : (table : Table) (from : ℕ) → IsKept table table from
kept_all table from = record { at = λ p above. refl }

pub kept_more : (old new : Table) (from : ℕ) (row : Row) → IsKept old new from → IsKept old (record { rows = set new.rows from row }) (from + 1)
kept_more old new from row h = record { at = λ p above. let other : p ≢ from = λ e. omega arith in get_or-set_other new.rows from p row no_row other ∙ h.at p (omega arith) }

-- up to a place, the rows are as they were
pub record IsKeptTo (old new : Table) (to : ℕ) : Type 0 where
  pub at : (p : ℕ) → p < to → row_at new p ≡ row_at old p

pub kept_to_all : (table : Table) (to : ℕ) → IsKeptTo table table to
kept_to_all table to = record { at = λ p below. refl }

pub kept_to_fewer : (old new : Table) (to from : ℕ) (row : Row) → to ≡ from + 1 → IsKeptTo old new to → IsKeptTo old (record { rows = set new.rows from row }) from
kept_to_fewer old new to from row next_to h = record { at = λ p below. let other : p ≢ from = λ e. omega arith in get_or-set_other new.rows from p row no_row other ∙ h.at p (omega arith) }

-- a row put where it stands
pub set_same : (table : Table) (from : ℕ) (row : Row) → row ≡ row_at table from → record { rows = set table.rows from row } ≡ table
set_same table from row e = ap (λ (r : Row). record { rows = set table.rows from r }) e ∙ ap (λ (rs : List Row). record { rows = rs }) (set-get_or table.rows from no_row)

-- what the kept rows of one table gather, those of the other do
pub gathers_kept : (places : Places) (old new : Table) (start stop : ℕ) (first result : Row) → IsKept old new start → Gathers places new start stop first result → Gathers places old start stop first result
gathers_kept places old new start stop first result same g = record {
  ends = λ k. ((λ h. forth k ((g.ends k).0 h)), (λ h. (g.ends k).1 (back k h)));
  next = λ a b text from names each. g.next a b text from names (λ r above below has. subst (λ (x : Row). NamesNext (MayFollow b (drop r text)) x.next) (sym (same.at r above)) (each r above below has));
}
  where
    forth : (k : ℕ) → HasPlace first.ends k ⊎ AnyRow places new start stop k → HasPlace first.ends k ⊎ AnyRow places old start stop k
    forth k (inl h) = inl h
    forth k (inr (r, above, below, has, ends)) = inr (r, above, below, has, subst (λ (x : Row). HasPlace x.ends k) (same.at r above) ends)

    back : (k : ℕ) → HasPlace first.ends k ⊎ AnyRow places old start stop k → HasPlace first.ends k ⊎ AnyRow places new start stop k
    back k (inl h) = inl h
    back k (inr (r, above, below, has, ends)) = inr (r, above, below, has, subst (λ (x : Row). HasPlace x.ends k) (sym (same.at r above)) ends)

abbrev pub unended : Row → Row
unended row = record { ends = blank_ends; next = row.next }

-- the row of a sequence, where the first part's row still stands
pub row_sequence_from : (a b : Pattern) (text : List ℕ) (A B : Table) (from len : ℕ) (row first result : Row) → length text ≡ len → from < len + 1 → HasEachRow a text A → HasEachRow b text B → row ≡ row_at A from → first ≡ unended row → Gathers row.ends B from (len + 1) first result → IsTableRow (sequence a b) (drop from text) from result
row_sequence_from a b text A B from len row first result same within ca cb stands none g =
    row_sequence a b text (row_at A from) B from first result (omega arith) (ca.at from (omega arith)) cb (λ k h. no_place k (subst (λ (f : Row). HasPlace f.ends k) none h)) (ap (λ (f : Row). f.next) none ∙ ap (λ (r : Row). r.next) stands)
    (subst (λ (n : ℕ). Gathers (row_at A from).ends B from (n + 1) first result) (sym same) (subst (λ (r : Row). Gathers r.ends B from (len + 1) first result) stands g))

-- the row of a repetition, where its part's row still stands
pub row_many_from : (a : Pattern) (text : List ℕ) (A T : Table) (from len : ℕ) (row first result : Row) → length text ≡ len → from ≤ len → HasEachRow a text A → IsRows (many a) text T (from + 1) (len + 1) → row ≡ row_at A from → ((k : ℕ) → HasPlace first.ends k ↔ (k ≡ from)) → first.next ≡ row.next → Gathers row.ends T (from + 1) (len + 1) first result → IsTableRow (many a) (drop from text) from result
row_many_from a text A T from len row first result same within ca later stands own follow g =
    row_many a text A T from first result (omega arith) ca (λ p above inside. later.at p (omega arith) (omega arith) inside) own (follow ∙ ap (λ (r : Row). r.next) stands)
    (subst (λ (n : ℕ). Gathers (row_at A from).ends T (from + 1) (n + 1) first result) (sym same) (subst (λ (r : Row). Gathers r.ends T (from + 1) (len + 1) first result) stands g))

pub covers_rows : (a : Pattern) (text : List ℕ) (table : Table) (stop : ℕ) → length text < stop → IsRows a text table 0 stop → HasEachRow a text table
covers_rows a text table stop enough h = record { at = λ from within. h.at from (omega arith) (omega arith) within }

pub allowed_ends : (m : Mark) (x place : ℕ) (places : Places) → Allows m x → ((k : ℕ) → HasPlace places k ↔ (k ≡ place + 1)) → (k : ℕ) → HasPlace places k ↔ (Allows m x × (k ≡ place + 1))
allowed_ends m x place places allows ends k = ((λ h. (allows, (ends k).0 h)), (λ h. (ends k).1 h.1))

pub barred_ends : (m : Mark) (x place : ℕ) → (Allows m x → ⊥) → (k : ℕ) → HasPlace blank_ends k ↔ (Allows m x × (k ≡ place + 1))
barred_ends m x place barred k = ((λ h. absurd (no_place k h)), (λ h. absurd (barred h.0)))

pub row_one_at : (m : Mark) (text : List ℕ) (place x : ℕ) (result : Row) → place < length text → x ≡ get_or text place x → ((k : ℕ) → HasPlace result.ends k ↔ (Allows m x × (k ≡ place + 1))) → result.next ≡ Nothing → IsTableRow (one m) (drop place text) place result
row_one_at m text place x result within is ends follow =
    let cut : drop place text ≡ x ∷ drop (suc place) text = drop-cons text place x within ∙ ap (λ y. y ∷ drop (suc place) text) (sym is) in
    subst (λ (r : List ℕ). IsTableRow (one m) r place result) (sym cut) (row_one m x (drop (suc place) text) place result ends follow)

pub row_one_last : (m : Mark) (text : List ℕ) (result : Row) → ((k : ℕ) → HasPlace result.ends k → ⊥) → NamesNext (Allows m) result.next → IsTableRow (one m) (drop (length text) text) (length text) result
row_one_last m text result ends names =
    subst (λ (r : List ℕ). IsTableRow (one m) r (length text) result) (sym (drop-length text)) (row_one_end m (length text) result ends names)

-- ---- counts

pub Covers_add : (i j : ℕ) (a : Pattern) (text : List ℕ) (table : Table) → HasEachRow (sequence (times i a) (times j a)) text table → HasEachRow (times (i + j) a) text table
Covers_add i j a text table h = Covers_same (sequence (times i a) (times j a)) (times (i + j) a) text table (times-add i j a) h

pub Covers_zero : (a : Pattern) (text : List ℕ) (table : Table) → HasEachRow empty text table → HasEachRow (times 0 a) text table
Covers_zero a text table h = Covers_same empty (times 0 a) text table (times_zero a) h

pub Covers_one : (a : Pattern) (text : List ℕ) (table : Table) → HasEachRow a text table → HasEachRow (times 1 a) text table
Covers_one a text table h = Covers_same a (times 1 a) text table (times_one a) h

-- so many repetitions in one table, and so many in another
abbrev pub Powers : Table → Table → Table → ℕ → ℕ → ℕ → Type 0
Powers base table power len i j = (a : Pattern) (text : List ℕ) → length text ≡ len → HasEachRow a text base → HasEachRow (times i a) text table × HasEachRow (times j a) text power

abbrev pub Joins : Table → Table → ℕ → Table → Type 0
Joins A B len T = (a b : Pattern) (text : List ℕ) → length text ≡ len → HasEachRow a text A → HasEachRow b text B → HasEachRow (sequence a b) text T

pub powers_added : (base table power result : Table) (len i j : ℕ) → Joins table power len result → Powers base table power len i j → Powers base result power len (i + j) j
powers_added base table power result len i j joins h a text same ca =
    (Covers_add i j a text result (joins (times i a) (times j a) text same (h a text same ca).0 (h a text same ca).1), (h a text same ca).1)

pub powers_squared : (base table power result : Table) (len i j : ℕ) → Joins power power len result → Powers base table power len i j → Powers base table result len i (j + j)
powers_squared base table power result len i j joins h a text same ca =
    ((h a text same ca).0, Covers_add j j a text result (joins (times j a) (times j a) text same (h a text same ca).1 (h a text same ca).1))

pub odd_half : (i j h left n : ℕ) → left ≡ h + h + 1 → i + j * left ≡ n → (i + j) + (j + j) * h ≡ n
odd_half i j h left n e f = let g : i + j * (h + h + 1) ≡ n = subst (λ (x : ℕ). i + j * x ≡ n) e f in omega arith

pub even_half : (i j h left n : ℕ) → left ≡ h + h → i + j * left ≡ n → i + (j + j) * h ≡ n
even_half i j h left n e f = let g : i + j * (h + h) ≡ n = subst (λ (x : ℕ). i + j * x ≡ n) e f in omega arith

pub none_left : (i j left n : ℕ) → left ≡ 0 → i + j * left ≡ n → i ≡ n
none_left i j left n e f = let g : i + j * 0 ≡ n = subst (λ (x : ℕ). i + j * x ≡ n) e f in omega arith

-- a power that is its own square stands for each multiple of its count
pub powers_repeated : (m : ℕ) (base table power : Table) (len i j : ℕ) → Joins power power len power → Powers base table power len i j → Powers base table power len i (j + j * m)
powers_repeated zero base table power len i j joins h a text same ca = let one = h a text same ca in (one.0, subst (λ (n : ℕ). HasEachRow (times n a) text power) (omega arith) one.1)
powers_repeated (suc m) base table power len i j joins h a text same ca =
    let rest = powers_repeated m base table power len i j joins h a text same ca in
    let one = h a text same ca in
    let e : j + (j + j * m) ≡ j + j * suc m = grind arith in
    (one.0, subst (λ (n : ℕ). HasEachRow (times n a) text power) e (Covers_add j (j + j * m) a text power (joins (times j a) (times (j + j * m) a) text same one.1 rest.1)))

pub all_at_once : (i j h n : ℕ) → 1 ≤ h → i + (j + j) * h ≡ n → i + (j + j * (h + h - 1)) ≡ n
all_at_once i j h n some e = apart h some e
  where
    apart : (k : ℕ) → 1 ≤ k → i + (j + j) * k ≡ n → i + (j + j * (k + k - 1)) ≡ n
    apart zero low f = absurd (omega arith)
    apart (suc k) low f = let g : suc k + suc k - 1 ≡ k + k + 1 = omega arith in ap (λ (x : ℕ). i + (j + j * x)) g ∙ grind (arith, f)

-- the table so far and its power, for so many squarings that are left
abbrev pub Left : Table → Table → Table → ℕ → ℕ → ℕ → Type 0
Left base table power len h n = (i : ℕ) × (j : ℕ) × (i + (j + j) * h ≡ n) × Powers base table power len i j

pub left_odd : (base table power result : Table) (len left h n i j : ℕ) → left ≡ h + h + 1 → i + j * left ≡ n → Joins table power len result → Powers base table power len i j → Left base result power len h n
left_odd base table power result len left h n i j e f joins g = (i + j, j, odd_half i j h left n e f, powers_added base table power result len i j joins g)

pub left_even : (base table power : Table) (len left h n i j : ℕ) → left ≡ h + h → i + j * left ≡ n → Powers base table power len i j → Left base table power len h n
left_even base table power len left h n i j e f g = (i, j, even_half i j h left n e f, g)

pub no_more : (i j h n : ℕ) → h ≡ 0 → i + (j + j) * h ≡ n → i + j * h ≡ n
no_more i j h n e f = let g : i + (j + j) * 0 ≡ n = subst (λ (x : ℕ). i + (j + j) * x ≡ n) e f in subst (λ (x : ℕ). i + j * x ≡ n) (sym e) (omega arith)
