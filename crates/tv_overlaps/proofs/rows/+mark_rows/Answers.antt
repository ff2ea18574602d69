use Rattle.std.proofs.Common.{length, ◌∙◌, arith}
use Rattle.std.proofs.lemmas.Int.{ints}
use Rattle.tv_overlaps.specs.Marks.{collide, collide_filling, enters}
use Rattle.tv_overlaps.proofs.HalfLemmas.{columns_meet, enter_rows, narrow_rows, part_of, split_rows}
use Rattle.tv_overlaps.proofs.HitLemmas.{all_parts, marked_same, marked_split}
use Rattle.tv_overlaps.proofs.rows.+mark_rows.Goals as goal

pub returns-in_default-clause-marks : goal.returns-in_default-clause-marks
returns-in_default-clause-marks t c =
    marked_same collide (collide_filling c.args.rows) c.args.items.now c.args.marks.now c.mark_columns.new.marks
    (narrow_rows (length c.args.marks.now) c.args.rows c.in_default.ensures c.args.items.now c.requires.items c.requires.rows) c.in_ok-mark_columns.ensures.marks

pub mark_columns-requires-clause-columns : goal.mark_columns-requires-clause-columns
mark_columns-requires-clause-columns t c = columns_meet (length c.args.marks.now) c.columns_of.result c.args.items.now c.columns_of.ensures c.requires.items

pub mark_rows-requires : goal.mark_rows-requires
mark_rows-requires t c =
    let h = c.in-Some.ensures in let e = c.deref.ensures.value ∙ c.in_ok-inner.ensures in (
      omega (arith, ints),
      (
        part_of (length c.args.marks.now) (length c.mark_columns.new.marks) (λ item. enters c.args.rows c.in-Some.upper item.rows) c.args.items.now c.deref.result.now c.mark_columns.ensures.len e c.requires.items,
        enter_rows c.args.rows c.in-Some.upper c.args.items.now c.deref.result.now e,
      ),
    )

pub mark_rows-requires-2 : goal.mark_rows-requires-2
mark_rows-requires-2 t c =
    let h = c.in-Some.ensures in let e = c.deref-2.ensures.value ∙ c.in_ok-inner-2.ensures in (
      omega (arith, ints),
      (
        part_of (length c.args.marks.now) (length c.mark_rows.new.marks) (λ item. enters c.args.rows c.in-Some.lower item.rows) c.args.items.now c.deref-2.result.now (c.mark_rows.ensures.len ∙ c.mark_columns.ensures.len) e c.requires.items,
        enter_rows c.args.rows c.in-Some.lower c.args.items.now c.deref-2.result.now e,
      ),
    )

pub returns-clause-marks : goal.returns-clause-marks
returns-clause-marks t c = all_parts (c.mark_rows-2.result) (λ last.
    marked_split collide (collide_filling c.args.rows) (λ item. enters c.args.rows c.in-Some.upper item.rows) (λ item. enters c.args.rows c.in-Some.lower item.rows)
    c.args.items.now c.deref.result.now c.deref-2.result.now c.args.marks.now c.mark_columns.new.marks c.mark_rows.new.marks c.mark_rows-2.new.marks
    (split_rows (length c.args.marks.now) c.args.rows c.in-Some.upper c.in-Some.lower c.in-Some.ensures c.args.items.now c.requires.items c.requires.rows)
    (c.deref.ensures.value ∙ c.in_ok-inner.ensures) (c.deref-2.ensures.value ∙ c.in_ok-inner-2.ensures)
    c.in_ok-mark_columns.ensures.marks c.in_ok-mark_rows.ensures.marks last) c.mark_rows-2.ensures.marks
