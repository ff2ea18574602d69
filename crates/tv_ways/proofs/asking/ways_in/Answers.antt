use Rattle.std.proofs.Common.{List, subst, ◌∙◌}
use Rattle.std.specs.List.{AllZip}
use Rattle.tv_reach.specs.declared.goal.Goal.{Goal}
use Rattle.tv_ways.specs.Asking.{IsWay}
use Rattle.std.specs.Prelude.{IfOk}
use Rattle.tv_ways.proofs.asking.ways_in.Goals as goal

pub returns : goal.returns
returns c =
    subst (λ (gs : List Goal). IfOk c.ways_to.result (λ ways. AllZip (IsWay c.args.desc.now c.args.place) gs ways.items))
    (c.as_slice.ensures ∙ c.in_ok-goals.ensures) c.ways_to.ensures
