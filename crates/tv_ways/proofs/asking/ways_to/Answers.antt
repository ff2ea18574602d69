use Rattle.std.proofs.Common.{List, subst}
use Rattle.std.specs.List.{AllZip}
use Rattle.std.proofs.lemmas.List.{get_or_default, take_all}
use Rattle.tv_app.proofs.DeclaredLemmas.{zip_more}
use Rattle.tv_reach.specs.declared.goal.Goal.{Goal}
use Rattle.tv_ways.specs.Asking.{IsWay}
use Rattle.tv_ways.proofs.asking.ways_to.Goals as goal

pub loop-goal-preserved : goal.loop-goal-preserved
loop-goal-preserved c =
    let goals = c.args.goals.now in
    let at = c.loop-goal.goal-index in
    zip_more (IsWay c.args.desc.now c.args.place) goals at _ c.loop-goal.ways.items c.push.new.self.items c.in_ok-way.way c.loop-goal-test.true
    (get_or_default goals at _ _ c.loop-goal-test.true) c.loop-goal.invariant c.in_ok-push.ensures.items c.in_ok-way.ensures

pub returns : goal.returns
returns c =
    let goals = c.args.goals.now in
    subst (λ (gs : List Goal). AllZip (IsWay c.args.desc.now c.args.place) gs c.loop-goal.ways.items)
    (take_all c.loop-goal.goal-index goals c.loop-goal-test.false) c.loop-goal.invariant
