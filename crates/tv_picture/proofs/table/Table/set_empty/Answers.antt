use Rattle.std.proofs.Common.{drop, arith, refl, ◌∙◌}
use Rattle.std.proofs.lemmas.List.{length-set}
use Rattle.tv_picture.specs.declared.row.Next.TheVariants.{Nothing}
use Rattle.tv_picture.specs.declared.row.Row.{Row}
use Rattle.tv_picture.specs.Pattern.{empty}
use Rattle.tv_picture.proofs.Rows.{rows_more, covers_rows, row_empty}
use Rattle.tv_picture.proofs.table.Table.set_empty.Goals as goal

pub loop-place-preserved : goal.loop-place-preserved
loop-place-preserved c =
    let row : Row = record { ends = c.only.result; next = Nothing } in (
      length-set c.loop-place.self.rows c.loop-place.place row ∙ c.loop-place.invariant.0,
      λ text few. rows_more empty text c.loop-place.self 0 c.loop-place.place row (omega arith) (c.loop-place.invariant.1 text few) (λ within. row_empty (drop c.loop-place.place text) c.loop-place.place row c.only.ensures refl),
    )

pub returns : goal.returns
returns c = λ text same. covers_rows empty text c.loop-place.self c.loop-place.place (omega arith) (c.loop-place.invariant.1 text same)
