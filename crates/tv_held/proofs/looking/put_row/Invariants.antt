use Rattle.std.proofs.Common.{◌≡◌, ◌*◌, flat_map, length}
use Rattle.std.specs.List.{range_with_len}
use Rattle.tv_cells.specs.Picture.{cell_at}
use Rattle.tv_held.specs.Looking.{cell_bytes}
use Rattle.tv_held.proofs.looking.put_row.Given as goal

abbrev pub invariant-loop-column : goal.invariant-loop-column
invariant-loop-column g l = record {
  bytes : l.bytes.items ≡ flat_map (λ column. cell_bytes (cell_at l.screen column l.row)) (range_with_len 0 l.column);
  count : length l.bytes.items ≡ 4 * l.column;
}
