use Rattle.std.proofs.Common.{◌≡◌, rules, subst}
use Rattle.tv_model.specs.declared.node.Id.{Id}
use Rattle.tv_ways.specs.Running.{IsReadAt}
use Rattle.tv_ways.proofs.running.has_focus.Goals as goal

pub returns-in-Some : goal.returns-in-Some
returns-in-Some c = λ e s runs.
    let same : c.in-Some.focus ≡ c.args.id = search rules in
    subst (λ (i : Id). IsReadAt s.desc c.args.place i s.state) same (c.in-Some.ensures s runs)
