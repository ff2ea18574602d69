use Rattle.std.proofs.Common.{rules, arith, take, ◌∙◌}
use Rattle.std.proofs.lemmas.Grind.{common_steps}
use Rattle.std.proofs.lemmas.List.Folds.{list_any_more}
use Rattle.std.specs.HashSet as set
use Rattle.std.specs.Ordering.{int_eq}
use Rattle.tv_model.specs.Faults.Starts.{opens_badly}
use Rattle.tv_model.proofs.EachAfterLemmas.{each_more}
use Rattle.tv_faults.proofs.GivenOpeningLemmas.{opens_badly_given}
use Rattle.tv_faults.proofs.openings.opened_badly.Goals as goal

pub loop-dialog-preserved : goal.loop-dialog-preserved
loop-dialog-preserved c =
    let seen = take c.loop-dialog.dialog-index c.args.dialogs.now in
    let same = opens_badly_given (set.contains int_eq c.loop-dialog.commands) seen c.loop-dialog.invariant.given c.dialog-item.result in
    record {
      judged = each_more opens_badly c.args.dialogs.now c.loop-dialog.dialog-index c.dialog-item.result (search rules) (search rules) _ _ c.in_ok-add_opening.field-0 c.loop-dialog.invariant.judged (search rules) (c.in_ok-add_opening.ensures.bad ∙ same);
      given = λ n. grind (arith, common_steps, list_any_more, c.loop-dialog.invariant.given n);
    }
