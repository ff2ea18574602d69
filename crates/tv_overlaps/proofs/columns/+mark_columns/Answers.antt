use Rattle.std.proofs.Common.{length, sym, ◌∙◌, arith}
use Rattle.std.proofs.lemmas.Int.{ints}
use Rattle.tv_overlaps.specs.Marks.{collide_filling, collide_wide, enters}
use Rattle.tv_overlaps.proofs.HalfLemmas.{enter_columns, narrow_columns, part_of, split_columns}
use Rattle.tv_overlaps.proofs.HitLemmas.{all_parts, hit_few, marked_none, marked_same, marked_split, none_filling}
use Rattle.tv_overlaps.proofs.columns.+mark_columns.Goals as goal
use Rattle.tv_overlaps.proofs.columns.+mark_columns.Goals.{then-items-lt2-via-then-items-lt2, then-items-lt2-via-else-items-lt2+then-not-some_fill}

pub returns-then-items-lt2-clause-marks : goal.returns-then-items-lt2-clause-marks
returns-then-items-lt2-clause-marks t c =
    marked_none (collide_filling c.args.rows) c.args.items.now c.args.marks.now
    (elim c.then-items-lt2.branch [
      | then-items-lt2-via-then-items-lt2 w ↦ λ place. hit_few (collide_filling c.args.rows) place c.args.items.now w.if-items-lt2.true
      | then-items-lt2-via-else-items-lt2+then-not-some_fill w ↦ λ place. none_filling c.args.rows place c.args.items.now (sym w.some_fill.ensures ∙ w.if-not-some_fill.true)
    ])

pub returns-in_default-clause-marks : goal.returns-in_default-clause-marks
returns-in_default-clause-marks t c =
    marked_same (collide_filling c.args.rows) (collide_wide c.args.rows c.args.columns) c.args.items.now c.args.marks.now c.mark_wide.new.marks
    (narrow_columns (length c.args.marks.now) c.args.rows c.args.columns c.in_default.ensures c.args.items.now c.requires.items c.requires.columns) c.mark_wide.ensures

pub mark_columns-requires : goal.mark_columns-requires
mark_columns-requires t c =
    let h = c.in-Some.ensures in let e = c.deref.ensures.value ∙ c.in_ok-inner.ensures in (
      omega (arith, ints),
      (
        part_of (length c.args.marks.now) (length c.mark_wide.new.marks) (λ item. enters c.args.columns c.in-Some.left item.columns) c.args.items.now c.deref.result.now c.mark_wide.ensures.len e c.requires.items,
        enter_columns c.args.columns c.in-Some.left c.args.items.now c.deref.result.now e,
      ),
    )

pub mark_columns-requires-2 : goal.mark_columns-requires-2
mark_columns-requires-2 t c =
    let h = c.in-Some.ensures in let e = c.deref-2.ensures.value ∙ c.in_ok-inner-2.ensures in (
      omega (arith, ints),
      (
        part_of (length c.args.marks.now) (length c.mark_columns.new.marks) (λ item. enters c.args.columns c.in-Some.right item.columns) c.args.items.now c.deref-2.result.now (c.mark_columns.ensures.len ∙ c.mark_wide.ensures.len) e c.requires.items,
        enter_columns c.args.columns c.in-Some.right c.args.items.now c.deref-2.result.now e,
      ),
    )

pub returns-clause-marks : goal.returns-clause-marks
returns-clause-marks t c = all_parts (c.mark_columns-2.result) (λ last.
    marked_split (collide_filling c.args.rows) (collide_wide c.args.rows c.args.columns) (λ item. enters c.args.columns c.in-Some.left item.columns) (λ item. enters c.args.columns c.in-Some.right item.columns)
    c.args.items.now c.deref.result.now c.deref-2.result.now c.args.marks.now c.mark_wide.new.marks c.mark_columns.new.marks c.mark_columns-2.new.marks
    (split_columns (length c.args.marks.now) c.args.rows c.args.columns c.in-Some.left c.in-Some.right c.in-Some.ensures c.args.items.now c.requires.items c.requires.columns)
    (c.deref.ensures.value ∙ c.in_ok-inner.ensures) (c.deref-2.ensures.value ∙ c.in_ok-inner-2.ensures)
    c.mark_wide.ensures c.in_ok-mark_columns.ensures.marks last) c.mark_columns-2.ensures.marks
