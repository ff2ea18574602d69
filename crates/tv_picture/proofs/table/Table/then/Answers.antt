use Rattle.std.proofs.Common.{◌≡◌, ◌+◌, ◌-◌, ℕ, List, length, arith, refl, sym, ◌∙◌, subst}
use Rattle.std.proofs.lemmas.List.{length-set}
use Rattle.std.proofs.Math.ListN.{set}
use Rattle.tv_picture.specs.declared.row.Row.{Row}
use Rattle.tv_picture.specs.Pattern.{Pattern, sequence}
use Rattle.tv_picture.specs.Table.{HasEachRow, IsGathered, row_at}
use Rattle.tv_picture.proofs.Rows.{IsKeptTo, IsRows, kept_to_all, kept_to_fewer, rows_none, rows_before, covers_rows}
use Rattle.tv_picture.proofs.Joined.{gathered_none, row_sequence_joined}
use Rattle.tv_picture.proofs.table.Table.then.Goals as goal

pub loop-done-init : goal.loop-done-init
loop-done-init c = (
  omega arith,
  kept_to_all c.args.self.now (c.args.len + 1 - 0),
  λ b text same cb. gathered_none b text c.args.other.now,
  λ a b text start same count ca cb. subst (λ (s : ℕ). IsRows (sequence a b) text c.args.self.now s (c.args.len + 1)) (omega arith) (rows_none (sequence a b) text c.args.self.now (c.args.len + 1)),
)

pub loop-done-preserved : goal.loop-done-preserved
loop-done-preserved c =
    let from : ℕ = c.args.len - c.loop-done.done in
    let below : c.args.len + 1 - (c.loop-done.done + 1) ≡ from = omega arith in
    let row : Row = row_at c.loop-done.self from in
    let gathered : (b : Pattern) (text : List ℕ) → length text ≡ c.args.len → HasEachRow b text c.args.other.now → IsGathered b text row.ends c.args.other.now c.gather_more-gathered.result = λ b text same cb. c.gather_more-gathered.ensures b text same cb (c.loop-done.invariant.2 b text same cb) in (
      length-set c.loop-done.self.rows from c.join.result ∙ c.loop-done.invariant.0,
      subst (IsKeptTo c.args.self.now (record { rows = set c.loop-done.self.rows from c.join.result })) (sym below)
          (kept_to_fewer c.args.self.now c.loop-done.self (c.args.len + 1 - c.loop-done.done) from c.join.result (omega arith) c.loop-done.invariant.1),
      gathered,
      λ a b text start same count ca cb.
          let here : from ≡ start = omega arith in
          let past : from + 1 + c.loop-done.done ≡ c.args.len + 1 = omega arith in
          let later : IsRows (sequence a b) text c.loop-done.self (from + 1) (c.args.len + 1) = c.loop-done.invariant.3 a b text (from + 1) same past ca cb in
          subst (λ (s : ℕ). IsRows (sequence a b) text (record { rows = set c.loop-done.self.rows from c.join.result }) s (c.args.len + 1)) here
          (rows_before (sequence a b) text c.loop-done.self from (from + 1) (c.args.len + 1) c.join.result (omega arith) refl later
          (row_sequence_joined a b text c.args.self.now c.args.other.now from c.args.len row c.unended.result c.gather_more-gathered.result c.join.result same (omega arith) ca cb (c.loop-done.invariant.1.at from (omega arith)) c.unended.ensures (gathered b text same cb) c.join.ensures.ends c.join.ensures.next)),
    )

pub returns : goal.returns
returns c = λ a b text same ca cb. covers_rows (sequence a b) text c.loop-done.self (c.args.len + 1) (omega arith) (c.loop-done.invariant.3 a b text 0 same (omega arith) ca cb)
