use Rattle.std.proofs.Common.{rules}
use Rattle.tv_declarations.specs.Spelling.{view_declarations}
use Rattle.tv_check.specs.Plan.{steps_of}
use Rattle.tv_check.proofs.PlanLemmas.{dialog_steps, owner_added}
use Rattle.tv_check.proofs.plan.add_dialog.Goals as goal

pub returns : goal.returns
returns c =
    owner_added c.args.plan.now.items c.push.new.self.items c.add_views.new.plan.items c.push-2.new.self.items c.step_of.result c.args.dialog.now.node (steps_of (view_declarations 0 c.args.dialog.now.views)) _
    (search rules) c.step_of.ensures (search rules) (search rules) (dialog_steps c.args.dialog.now)
