use Rattle.std.proofs.Common.{◌≡◌, ◌+◌, ℕ, length, true, false, arith, sym, subst}
use Rattle.tv_picture.specs.declared.row.Row.{Row}
use Rattle.tv_picture.specs.Table.{row_at}
use Rattle.tv_picture.proofs.Repeated.{IsGrown, grown_none, grown_more, grown_skip, row_grown}
use Rattle.tv_picture.proofs.table.Table.many_after.Goals as goal
use Rattle.tv_picture.proofs.table.Table.many_after.Goals.{then-has, else-has}

pub loop-place-init : goal.loop-place-init
loop-place-init c = λ a b text same h each. grown_none a b text c.args.first h

pub loop-place-preserved : goal.loop-place-preserved
loop-place-preserved c = λ a b text same h each. elim c.if-has.branch [
  | then-has w ↦ subst (λ (r : Row). IsGrown a b text c.args.first (c.loop-place.place + 1) r) (sym w.row-is)
      (grown_more a b text c.args.first c.loop-place.place c.loop-place.row (row_at c.args.self.now c.loop-place.place) w.join-row.result (each.at c.loop-place.place (omega arith)) (c.has.ensures.0 w.if-has.true) w.join-row.ensures.ends w.join-row.ensures.next (c.loop-place.invariant a b text same h each))
  | else-has w ↦ subst (λ (r : Row). IsGrown a b text c.args.first (c.loop-place.place + 1) r) (sym w.row-is)
      (grown_skip a b text c.args.first c.loop-place.place c.loop-place.row (λ has. let yes : c.has.result ≡ true = c.has.ensures.1 has in let no : c.has.result ≡ false = w.if-has.false in cc) (c.loop-place.invariant a b text same h each))
]

pub returns : goal.returns
returns c = λ a b text same h each.
    let end : c.loop-place.place ≡ length text + 1 = omega arith in
    row_grown a b text c.args.first h c.loop-place.row (subst (λ (n : ℕ). IsGrown a b text c.args.first n c.loop-place.row) end (c.loop-place.invariant a b text same h each))
