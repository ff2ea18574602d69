use Rattle.std.proofs.Common.{ℕ, List, arith}
use Rattle.tv_cells.specs.Picture.{cell_at}
use Rattle.tv_held.specs.Looking.{cell_bytes}
use Rattle.tv_script.proofs.RangeLemmas.{flat_map-range-more}
use Rattle.tv_held.proofs.looking.put_row.Goals as goal

pub push_cell-requires : goal.push_cell-requires
push_cell-requires g c = omega (arith, c.loop-column.invariant.count, c.loop-column-test.true, c.width-column-end.ensures.small.1)

pub loop-column-preserved : goal.loop-column-preserved
loop-column-preserved g c =
    let cells : ℕ → List ℕ = λ column. cell_bytes (cell_at c.args.screen.now column c.args.row) in
    let column = c.loop-column.column in
    record {
      bytes = rw (c.push_cell.ensures.bytes, c.loop-column.invariant.bytes, c.get.ensures) (flat_map-range-more cells column);
      count = omega (arith, c.push_cell.ensures.count, c.loop-column.invariant.count);
    }
