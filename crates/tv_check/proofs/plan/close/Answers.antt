use Rattle.std.proofs.Common.{◌≡◌, suc, ◌+◌, ◌-◌, rules, arith}
use Rattle.tv_check.proofs.PlanLemmas.{one_closed}
use Rattle.tv_check.proofs.plan.close.Goals as goal

pub loop-preserved : goal.loop-preserved
loop-preserved c =
    let one : c.args.count - c.loop.counter ≡ suc (c.args.count - (c.loop.counter + 1)) = omega arith in
    one_closed c.loop.plan.items c.push.new.self.items (c.args.count - (c.loop.counter + 1)) _ (search rules) (rw one at c.loop.invariant)
