use Rattle.std.proofs.Common.{◌∙◌}
use Rattle.tv_dialog.proofs.PlanLemmas.{default-leaves}
use Rattle.tv_dialog.proofs.plan.Plan.of.Goals as goal

pub returns : goal.returns
returns c =
    let default = c.default_button.ensures ∙ default-leaves c.args.views.now in
    cc (default, c.in_ok-leaf_plans.ensures, c.in_ok-kept_gates.ensures, c.has_rules.ensures)
