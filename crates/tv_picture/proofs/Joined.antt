-- Rows gathered at some places, from those gathered at fewer.
use Rattle.std.proofs.Common.{◌≡◌, ◌⊎◌, inl, inr, ◌↔◌, ℕ, ◌+◌, ◌≤◌, List, length, drop, arith, ap, sym, subst}
use Rattle.tv_picture.specs.declared.places.Places.{Places}
use Rattle.tv_picture.specs.declared.row.Row.{Row}
use Rattle.tv_picture.specs.declared.table.Table.{Table}
use Rattle.tv_picture.specs.Pattern.{Pattern, empty, sequence}
use Rattle.tv_picture.specs.Table.{HasPlace, NamesNext, either_next, MayFollow, IsTableRow, HasEachRow, FollowsFrom, AnyRow, Gathers, IsGathered, row_at, no_row}
use Rattle.tv_picture.proofs.BitLemmas.{set_or_not}
use Rattle.tv_picture.proofs.Language.{no_end}
use Rattle.tv_picture.proofs.Gathered.{Names_same, Names_joined}
use Rattle.tv_picture.proofs.Rows.{no_place, blank_ends, unended, row_sequence_of}

pub gathered_none : (b : Pattern) (text : List ℕ) (table : Table) → IsGathered b text blank_ends table no_row
gathered_none b text table = record {
  ends = λ k. ((λ h. absurd (no_place k h)), (λ (h : AnyRow blank_ends table 0 (length text + 1) k). absurd (no_place h.0 h.3)));
  next = λ c f. no_place f.0 f.3;
}

-- what is gathered at these places alone
pub gathered_alone : (b : Pattern) (text : List ℕ) (places : Places) (table : Table) (len : ℕ) (row : Row) → length text ≡ len → HasEachRow b text table → Gathers places table 0 (len + 1) no_row row → IsGathered b text places table row
gathered_alone b text places table len row same cb given = record {
  ends = λ k. ((λ h. alone k ((g.ends k).0 h)), (λ h. (g.ends k).1 (inr h)));
  next = Names_same (λ c. MayFollow empty (drop 0 text) c ⊎ FollowsFrom places b text 0 (length text + 1) c) (FollowsFrom places b text 0 (length text + 1)) row.next follows (λ c f. inr f)
      (g.next empty b text 0 (λ c f. no_end (drop 0 text) c f.0 f.1) (λ r above below has. (cb.at r (omega arith)).next));
}
  where
    g : Gathers places table 0 (length text + 1) no_row row
    g = subst (λ (n : ℕ). Gathers places table 0 (n + 1) no_row row) (sym same) given

    alone : (k : ℕ) → HasPlace blank_ends k ⊎ AnyRow places table 0 (length text + 1) k → AnyRow places table 0 (length text + 1) k
    alone k (inl h) = absurd (no_place k h)
    alone k (inr h) = h

    follows : (c : ℕ) → MayFollow empty (drop 0 text) c ⊎ FollowsFrom places b text 0 (length text + 1) c → FollowsFrom places b text 0 (length text + 1) c
    follows c (inl f) = absurd (no_end (drop 0 text) c f.0 f.1)
    follows c (inr f) = f

-- places that contain others are those and what is left
abbrev pub AreParts : Places → Places → Places → Type 0
AreParts whole some left = (k : ℕ) → HasPlace whole k ↔ (HasPlace some k ⊎ HasPlace left k)

pub places_parted : (whole some left : Places) → ((k : ℕ) → HasPlace some k → HasPlace whole k) → ((k : ℕ) → HasPlace left k ↔ (HasPlace whole k × (HasPlace some k → ⊥))) → AreParts whole some left
places_parted whole some left contains rest k = (forth, back)
  where
    forth : HasPlace whole k → HasPlace some k ⊎ HasPlace left k
    forth h = elim (set_or_not some.bits k) [ inl s ↦ inl s | inr n ↦ inr ((rest k).1 (h, n)) ]

    back : HasPlace some k ⊎ HasPlace left k → HasPlace whole k
    back (inl h) = contains k h
    back (inr h) = ((rest k).0 h).0

pub gathered_joined : (b : Pattern) (text : List ℕ) (whole some left : Places) (table : Table) (p q row : Row) → AreParts whole some left → IsGathered b text some table p → IsGathered b text left table q → ((k : ℕ) → HasPlace row.ends k ↔ (HasPlace p.ends k ⊎ HasPlace q.ends k)) → row.next ≡ either_next p.next q.next → IsGathered b text whole table row
gathered_joined b text whole some left table p q row parts hp hq ends follow = record {
  ends = λ k. ((λ h. forth k ((ends k).0 h)), (λ h. (ends k).1 (back k h)));
  next = Names_same (λ c. FollowsFrom some b text 0 (length text + 1) c ⊎ FollowsFrom left b text 0 (length text + 1) c) (FollowsFrom whole b text 0 (length text + 1)) row.next wide narrow
      (subst (NamesNext (λ c. FollowsFrom some b text 0 (length text + 1) c ⊎ FollowsFrom left b text 0 (length text + 1) c)) (sym follow)
      (Names_joined (FollowsFrom some b text 0 (length text + 1)) (FollowsFrom left b text 0 (length text + 1)) p.next q.next hp.next hq.next));
}
  where
    widened : (k : ℕ) → AnyRow some table 0 (length text + 1) k ⊎ AnyRow left table 0 (length text + 1) k → AnyRow whole table 0 (length text + 1) k
    widened k (inl (r, above, below, has, end)) = (r, above, below, (parts r).1 (inl has), end)
    widened k (inr (r, above, below, has, end)) = (r, above, below, (parts r).1 (inr has), end)

    forth : (k : ℕ) → HasPlace p.ends k ⊎ HasPlace q.ends k → AnyRow whole table 0 (length text + 1) k
    forth k (inl h) = widened k (inl ((hp.ends k).0 h))
    forth k (inr h) = widened k (inr ((hq.ends k).0 h))

    back : (k : ℕ) → AnyRow whole table 0 (length text + 1) k → HasPlace p.ends k ⊎ HasPlace q.ends k
    back k (r, above, below, has, end) = elim ((parts r).0 has) [
      | inl h ↦ inl ((hp.ends k).1 (r, above, below, h, end))
      | inr h ↦ inr ((hq.ends k).1 (r, above, below, h, end))
    ]

    wide : (c : ℕ) → FollowsFrom some b text 0 (length text + 1) c ⊎ FollowsFrom left b text 0 (length text + 1) c → FollowsFrom whole b text 0 (length text + 1) c
    wide c (inl (r, above, below, has, f)) = (r, above, below, (parts r).1 (inl has), f)
    wide c (inr (r, above, below, has, f)) = (r, above, below, (parts r).1 (inr has), f)

    narrow : (c : ℕ) → FollowsFrom whole b text 0 (length text + 1) c → FollowsFrom some b text 0 (length text + 1) c ⊎ FollowsFrom left b text 0 (length text + 1) c
    narrow c (r, above, below, has, f) = elim ((parts r).0 has) [
      | inl h ↦ inl (r, above, below, h, f)
      | inr h ↦ inr (r, above, below, h, f)
    ]

-- the row of a sequence: what may follow inside the first part, and what is gathered at its ends
pub row_sequence_joined : (a b : Pattern) (text : List ℕ) (A B : Table) (from len : ℕ) (row first gathered result : Row) → length text ≡ len → from ≤ len → HasEachRow a text A → HasEachRow b text B → row ≡ row_at A from → first ≡ unended row → IsGathered b text row.ends B gathered → ((k : ℕ) → HasPlace result.ends k ↔ (HasPlace first.ends k ⊎ HasPlace gathered.ends k)) → result.next ≡ either_next first.next gathered.next → IsTableRow (sequence a b) (drop from text) from result
row_sequence_joined a b text A B from len row first gathered result same within ca cb stands none g ends follow =
    row_sequence_of a b text row B from result (omega arith) here cb (λ k. ((λ h. (g.ends k).0 (past k ((ends k).0 h))), (λ h. (ends k).1 (inr ((g.ends k).1 h)))))
    (subst (NamesNext (λ c. MayFollow a (drop from text) c ⊎ FollowsFrom row.ends b text 0 (length text + 1) c)) (sym follow)
    (Names_joined (MayFollow a (drop from text)) (FollowsFrom row.ends b text 0 (length text + 1)) first.next gathered.next
    (subst (NamesNext (MayFollow a (drop from text))) (sym (ap (λ (f : Row). f.next) none)) here.next)
    g.next))
  where
    here : IsTableRow a (drop from text) from row
    here = subst (IsTableRow a (drop from text) from) (sym stands) (ca.at from (omega arith))

    past : (k : ℕ) → HasPlace first.ends k ⊎ HasPlace gathered.ends k → HasPlace gathered.ends k
    past k (inl h) = absurd (no_place k (subst (λ (f : Row). HasPlace f.ends k) none h))
    past k (inr h) = h
