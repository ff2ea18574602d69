use Rattle.std.proofs.Common.{◌≡◌, ◌+◌, ◌-◌, ℕ, arith, subst}
use Rattle.tv_picture.specs.declared.row.Row.{Row}
use Rattle.tv_picture.specs.Table.{Gathers}
use Rattle.tv_picture.proofs.Repeated.{Counted, counted_none, counted_more, counted_rest}
use Rattle.tv_picture.proofs.table.Table.times_after.Goals as goal

pub loop-done-init : goal.loop-done-init
loop-done-init c = counted_none c.args.self.now c.args.first c.args.len

pub loop-done-preserved : goal.loop-done-preserved
loop-done-preserved c = counted_more c.args.self.now c.args.first c.loop-done.row c.unended.result c.gather_all-more.result c.args.len c.loop-done.done c.unended.ensures c.gather_all-more.ensures c.loop-done.invariant

pub returns : goal.returns
returns c = let end : c.loop-done.done ≡ c.args.count = omega arith in subst (λ (n : ℕ). Counted c.args.self.now c.args.first c.args.len c.loop-done.row n) end c.loop-done.invariant

pub returns-then-is : goal.returns-then-is
returns-then-is c =
    let row : Row = c.loop-done.row in
    let stays : Gathers row.ends c.args.self.now 0 (c.args.len + 1) c.unended.result row = subst (λ (r : Row). Gathers row.ends c.args.self.now 0 (c.args.len + 1) c.unended.result r) (c.is.ensures c.if-is.true) c.gather_all-more.ensures in
    let end : c.loop-done.done + (c.args.count - c.loop-done.done) ≡ c.args.count = omega arith in
    subst (λ (n : ℕ). Counted c.args.self.now c.args.first c.args.len row n) end
    (counted_rest (c.args.count - c.loop-done.done) c.args.self.now c.args.first row c.unended.result c.args.len c.loop-done.done c.unended.ensures stays c.loop-done.invariant)
