use Rattle.std.proofs.Common.{◌≡◌, ◌&&◌, rules, arith, ap, ◌∙◌}
use Rattle.std.proofs.lemmas.Grind.{common_steps}
use Rattle.std.proofs.lemmas.List.Folds.{list_any_more}
use Rattle.tv_model.specs.Description.Nodes.{is_default}
use Rattle.tv_model.specs.Faults.Starts.{is_second_default}
use Rattle.tv_model.proofs.EachAfterLemmas.{each_more}
use Rattle.tv_faults.proofs.defaults.second_defaults.Goals as goal

pub loop-view-preserved : goal.loop-view-preserved
loop-view-preserved c =
    let is_second : c.if-is_default.push ≡ (is_default c.view-item.result && c.loop-view.has_default) = search rules in
    record {
      judged = each_more is_second_default c.args.views.now c.loop-view.view-index c.view-item.result (search rules) (search rules) _ _ c.if-is_default.push c.loop-view.invariant.judged (search rules) (is_second ∙ ap (λ b. is_default c.view-item.result && b) c.loop-view.invariant.given);
      given = grind (arith, common_steps, list_any_more);
    }
