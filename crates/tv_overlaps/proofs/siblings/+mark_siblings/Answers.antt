use Rattle.std.proofs.Common.{false, length, ℕ, ◌+◌, ◌-◌, ◌/◌, refl, ◌∙◌, arith}
use Rattle.tv_overlaps.specs.Marks.{collide, collide_as_siblings, is_owned}
use Rattle.tv_overlaps.proofs.HalfLemmas.{part_of, rows_meet}
use Rattle.tv_overlaps.proofs.HitLemmas.{all_parts, hit_few, marked_none, marked_same, marked_split}
use Rattle.tv_overlaps.proofs.OwnedLemmas.{nobody_marked, one_owner, owned_part, split_owners}
use Rattle.tv_overlaps.proofs.siblings.+mark_siblings.Goals as goal

pub returns-then-items-lt2-clause-marks : goal.returns-then-items-lt2-clause-marks
returns-then-items-lt2-clause-marks t c =
    marked_none collide_as_siblings c.args.items.now c.args.marks.now (λ place. hit_few collide_as_siblings place c.args.items.now c.if-items-lt2.true)

pub returns-then-last-first-clause-marks : goal.returns-then-last-first-clause-marks
returns-then-last-first-clause-marks t c = all_parts c.mark_rows.result
    (marked_same collide_as_siblings collide c.args.items.now c.args.marks.now c.mark_rows.new.marks
    (one_owner c.args.first c.args.last c.if-last-first.true c.args.items.now c.requires.owners))
    c.mark_rows.ensures.marks

abbrev middle : ℕ → ℕ → ℕ
middle first last = first + (last - first) / 2

pub mark_siblings-requires : goal.mark_siblings-requires
mark_siblings-requires t c =
    let m = middle c.args.first c.args.last in let e = c.deref.ensures.value ∙ c.in_ok-owned.ensures in (
      omega arith,
      (
        part_of (length c.args.marks.now) (length c.args.marks.now) (is_owned c.args.first m) c.args.items.now c.deref.result.now refl e c.requires.items,
        owned_part c.args.first m c.args.items.now c.deref.result.now e,
      ),
    )

pub mark_siblings-requires-2 : goal.mark_siblings-requires-2
mark_siblings-requires-2 t c =
    let m = middle c.args.first c.args.last in let e = c.deref-2.ensures.value ∙ c.in_ok-owned-2.ensures in (
      omega arith,
      (
        part_of (length c.args.marks.now) (length c.mark_siblings.new.marks) (is_owned (m + 1) c.args.last) c.args.items.now c.deref-2.result.now c.mark_siblings.ensures.len e c.requires.items,
        owned_part (m + 1) c.args.last c.args.items.now c.deref-2.result.now e,
      ),
    )

pub returns-clause-marks : goal.returns-clause-marks
returns-clause-marks t c =
    let m = middle c.args.first c.args.last in
    all_parts c.mark_siblings-2.result (λ last.
    marked_split collide_as_siblings (λ _ _. false) (is_owned c.args.first m) (is_owned (m + 1) c.args.last)
    c.args.items.now c.deref.result.now c.deref-2.result.now c.args.marks.now c.args.marks.now c.mark_siblings.new.marks c.mark_siblings-2.new.marks
    (split_owners c.args.first m c.args.last c.args.items.now c.requires.owners)
    (c.deref.ensures.value ∙ c.in_ok-owned.ensures) (c.deref-2.ensures.value ∙ c.in_ok-owned-2.ensures)
    (nobody_marked c.args.items.now c.args.marks.now) c.in_ok-mark_siblings.ensures.marks last) c.mark_siblings-2.ensures.marks

pub mark_rows-requires-clause-rows : goal.mark_rows-requires-clause-rows
mark_rows-requires-clause-rows t c = rows_meet (length c.args.marks.now) c.rows_of.result c.args.items.now c.rows_of.ensures c.requires.items
