use Rattle.std.proofs.Common.{map, rules}
use Rattle.tv_check.specs.Plan.{node_step}
use Rattle.tv_check.proofs.PlanLemmas.{window_steps, owner_added}
use Rattle.tv_check.proofs.plan.add_window.Goals as goal

pub returns : goal.returns
returns c =
    owner_added c.args.plan.now.items c.push.new.self.items c.add_texts.new.plan.items c.push-2.new.self.items c.step_of.result c.args.window.now.node (map node_step c.args.window.now.views) _
    (search rules) c.step_of.ensures (search rules) (search rules) (window_steps c.args.window.now)
