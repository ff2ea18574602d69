use Rattle.std.proofs.Common.{◌≡◌, ◌+◌, ◌-◌, ℕ, arith, refl, sym, ◌∙◌, subst}
use Rattle.std.proofs.lemmas.List.{length-set}
use Rattle.std.proofs.Math.ListN.{set}
use Rattle.tv_picture.specs.declared.row.Row.{Row}
use Rattle.tv_picture.specs.Pattern.{many}
use Rattle.tv_picture.specs.Table.{row_at}
use Rattle.tv_picture.proofs.Rows.{IsKeptTo, IsRows, kept_to_all, kept_to_fewer, rows_none, rows_before, covers_rows, row_many_from}
use Rattle.tv_picture.proofs.table.Table.repeat.Goals as goal

pub loop-done-init : goal.loop-done-init
loop-done-init c = (
  omega arith,
  kept_to_all c.args.self.now (c.args.len + 1 - 0),
  λ a text start same count ca. subst (λ (s : ℕ). IsRows (many a) text c.args.self.now s (c.args.len + 1)) (omega arith) (rows_none (many a) text c.args.self.now (c.args.len + 1)),
)

pub loop-done-preserved : goal.loop-done-preserved
loop-done-preserved c =
    let from : ℕ = c.args.len - c.loop-done.done in
    let below : c.args.len + 1 - (c.loop-done.done + 1) ≡ from = omega arith in (
      length-set c.loop-done.self.rows from c.gather.result ∙ c.loop-done.invariant.0,
      subst (IsKeptTo c.args.self.now (record { rows = set c.loop-done.self.rows from c.gather.result })) (sym below)
          (kept_to_fewer c.args.self.now c.loop-done.self (c.args.len + 1 - c.loop-done.done) from c.gather.result (omega arith) c.loop-done.invariant.1),
      λ a text start same count ca.
          let here : from ≡ start = omega arith in
          let past : from + 1 + c.loop-done.done ≡ c.args.len + 1 = omega arith in
          let row : Row = row_at c.loop-done.self from in
          let first : Row = record { ends = c.only.result; next = row.next } in
          let later : IsRows (many a) text c.loop-done.self (from + 1) (c.args.len + 1) = c.loop-done.invariant.2 a text (from + 1) same past ca in
          subst (λ (s : ℕ). IsRows (many a) text (record { rows = set c.loop-done.self.rows from c.gather.result }) s (c.args.len + 1)) here
          (rows_before (many a) text c.loop-done.self from (from + 1) (c.args.len + 1) c.gather.result (omega arith) refl later
          (row_many_from a text c.args.self.now c.loop-done.self from c.args.len row first c.gather.result same (omega arith) ca later (c.loop-done.invariant.1.at from (omega arith)) c.only.ensures refl c.gather.ensures)),
    )

pub returns : goal.returns
returns c = λ a text same ca. covers_rows (many a) text c.loop-done.self (c.args.len + 1) (omega arith) (c.loop-done.invariant.2 a text 0 same (omega arith) ca)
