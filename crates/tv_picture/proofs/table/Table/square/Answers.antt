use Rattle.std.proofs.Common.{◌≡◌, ◌+◌, true, false, arith, ◌∙◌, sym}
use Rattle.std.proofs.lemmas.List.{length-set}
use Rattle.std.proofs.Math.ListN.{set}
use Rattle.tv_picture.specs.declared.row.Row.{Row}
use Rattle.tv_picture.specs.declared.table.Table.{Table}
use Rattle.tv_picture.specs.Pattern.{sequence}
use Rattle.tv_picture.specs.Table.{row_at}
use Rattle.tv_picture.proofs.Rows.{kept_more, set_same, gathers_kept, rows_more, covers_rows, row_sequence_from}
use Rattle.tv_picture.proofs.table.Table.square.Goals as goal
use Rattle.tv_picture.proofs.table.Table.square.Goals.{then-same, else-same}

pub loop-from-preserved : goal.loop-from-preserved
loop-from-preserved c =
    let row : Row = row_at c.loop-from.self c.loop-from.from in
    let result : Row = c.gather-squared.result in
    let next : Table = record { rows = set c.loop-from.self.rows c.loop-from.from result } in
    let as_it_was : c.if-same.same ≡ true → next ≡ c.args.self.now = λ e. elim c.if-same.branch [
      | then-same w ↦ set_same c.loop-from.self c.loop-from.from result (w.is-same.ensures (sym w.same-is ∙ e)) ∙ c.loop-from.invariant.2 w.if-same.true
      | else-same w ↦ let yes : c.if-same.same ≡ true = e in let no : c.if-same.same ≡ false = w.same-is ∙ w.if-same.false in absurd (cc)
    ] in (
      length-set c.loop-from.self.rows c.loop-from.from result ∙ c.loop-from.invariant.0,
      kept_more c.args.self.now c.loop-from.self c.loop-from.from result c.loop-from.invariant.1,
      as_it_was,
      λ a b text same ca cb. rows_more (sequence a b) text c.loop-from.self 0 c.loop-from.from result (omega arith) (c.loop-from.invariant.3 a b text same ca cb)
          (λ within. row_sequence_from a b text c.args.self.now c.args.self.now c.loop-from.from c.args.len row c.unended.result result same (omega arith) ca cb (c.loop-from.invariant.1.at c.loop-from.from (omega arith)) c.unended.ensures
          (gathers_kept row.ends c.args.self.now c.loop-from.self c.loop-from.from (c.args.len + 1) c.unended.result result c.loop-from.invariant.1 c.gather-squared.ensures)),
    )

pub returns-clause-joins : goal.returns-clause-joins
returns-clause-joins c = λ a b text same ca cb. covers_rows (sequence a b) text c.loop-from.self c.loop-from.from (omega arith) (c.loop-from.invariant.3 a b text same ca cb)
