use Rattle.std.proofs.Common.{◌≡◌, suc, ◌+◌, ◌-◌, rules, arith}
use Rattle.tv_boxes.proofs.SpaceLemmas.{one_space}
use Rattle.tv_boxes.proofs.items.push_spaces.Goals as goal

pub loop-preserved : goal.loop-preserved
loop-preserved c =
    let one : c.args.count - c.loop.counter ≡ suc (c.args.count - (c.loop.counter + 1)) = omega arith in
    one_space c.loop.row.items c.push.new.self.items _ (c.args.count - (c.loop.counter + 1)) (search rules) (rw one at c.loop.invariant)
