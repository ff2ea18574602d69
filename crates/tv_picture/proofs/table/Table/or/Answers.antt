use Rattle.std.proofs.Common.{drop, arith, sym, ◌∙◌, subst}
use Rattle.std.proofs.lemmas.List.{length-set}
use Rattle.tv_picture.specs.Pattern.{either}
use Rattle.tv_picture.specs.Table.{IsTableRow, row_at}
use Rattle.tv_picture.proofs.Rows.{kept_all, kept_more, rows_none, rows_more, covers_rows, row_either}
use Rattle.tv_picture.proofs.table.Table.or.Goals as goal

pub loop-place-init : goal.loop-place-init
loop-place-init c = (omega arith, kept_all c.args.self.now 0, λ a b text same ca cb. rows_none (either a b) text c.args.self.now 0)

pub loop-place-preserved : goal.loop-place-preserved
loop-place-preserved c = (
  length-set c.loop-place.self.rows c.loop-place.place c.join.result ∙ c.loop-place.invariant.0,
  kept_more c.args.self.now c.loop-place.self c.loop-place.place c.join.result c.loop-place.invariant.1,
  λ a b text same ca cb. rows_more (either a b) text c.loop-place.self 0 c.loop-place.place c.join.result (omega arith) (c.loop-place.invariant.2 a b text same ca cb)
      (λ within. row_either a b (drop c.loop-place.place text) c.loop-place.place (row_at c.loop-place.self c.loop-place.place) (row_at c.args.other.now c.loop-place.place) c.join.result
      (subst (IsTableRow a (drop c.loop-place.place text) c.loop-place.place) (sym (c.loop-place.invariant.1.at c.loop-place.place (omega arith))) (ca.at c.loop-place.place within))
      (cb.at c.loop-place.place within) c.join.ensures.ends c.join.ensures.next),
)

pub returns : goal.returns
returns c = λ a b text same ca cb. covers_rows (either a b) text c.loop-place.self c.loop-place.place (omega arith) (c.loop-place.invariant.2 a b text same ca cb)
