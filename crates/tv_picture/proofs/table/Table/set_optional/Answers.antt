use Rattle.std.proofs.Common.{drop, arith, refl, sym, ◌∙◌, subst}
use Rattle.std.proofs.lemmas.List.{length-set}
use Rattle.tv_picture.specs.declared.row.Next.TheVariants.{Nothing}
use Rattle.tv_picture.specs.declared.row.Row.{Row}
use Rattle.tv_picture.specs.Pattern.{empty, optional}
use Rattle.tv_picture.specs.Table.{IsTableRow, row_at}
use Rattle.tv_picture.proofs.Rows.{kept_all, kept_more, rows_none, rows_more, covers_rows, row_empty, row_either, row_optional}
use Rattle.tv_picture.proofs.table.Table.set_optional.Goals as goal

pub loop-place-init : goal.loop-place-init
loop-place-init c = (omega arith, kept_all c.args.self.now 0, λ a text same ca. rows_none (optional a) text c.args.self.now 0)

pub loop-place-preserved : goal.loop-place-preserved
loop-place-preserved c =
    let stays : Row = record { ends = c.only.result; next = Nothing } in
    let row : Row = row_at c.loop-place.self c.loop-place.place in (
      length-set c.loop-place.self.rows c.loop-place.place c.join.result ∙ c.loop-place.invariant.0,
      kept_more c.args.self.now c.loop-place.self c.loop-place.place c.join.result c.loop-place.invariant.1,
      λ a text same ca. rows_more (optional a) text c.loop-place.self 0 c.loop-place.place c.join.result (omega arith) (c.loop-place.invariant.2 a text same ca)
          (λ within.
          let here : IsTableRow a (drop c.loop-place.place text) c.loop-place.place row = subst (IsTableRow a (drop c.loop-place.place text) c.loop-place.place) (sym (c.loop-place.invariant.1.at c.loop-place.place (omega arith))) (ca.at c.loop-place.place within) in
          row_optional a (drop c.loop-place.place text) c.loop-place.place row c.join.result here
          (row_either a empty (drop c.loop-place.place text) c.loop-place.place row stays c.join.result here (row_empty (drop c.loop-place.place text) c.loop-place.place stays c.only.ensures refl) c.join.ensures.ends c.join.ensures.next)),
    )

pub returns : goal.returns
returns c = λ a text same ca. covers_rows (optional a) text c.loop-place.self c.loop-place.place (omega arith) (c.loop-place.invariant.2 a text same ca)
