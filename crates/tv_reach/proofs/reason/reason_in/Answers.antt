use Rattle.std.proofs.Common.{subst, sym}
use Rattle.tv_reach.specs.declared.answer.Reason.TheVariants as reasons
use Rattle.tv_reach.specs.declared.goal.Goal.{Goal}
use Rattle.tv_reach.specs.Never.{IsReasonIn}
use Rattle.tv_reach.proofs.reason.reason_in.Goals as goal

pub returns-in-Shows-clause-found : goal.returns-in-Shows-clause-found
returns-in-Shows-clause-found c =
    subst (λ (goal : Goal). IsReasonIn c.args.case.now.desc.now c.args.case.now.dialog.now c.args.case.now.masks.now goal reasons.NotShown)
    (sym c.in-Shows.is) (c.are_never_shown.ensures.0 c.if-are_never_shown.true)

pub returns-in-Focuses-clause-found : goal.returns-in-Focuses-clause-found
returns-in-Focuses-clause-found c =
    subst (λ (goal : Goal). IsReasonIn c.args.case.now.desc.now c.args.case.now.dialog.now c.args.case.now.masks.now goal reasons.NotFree)
    (sym c.in-Focuses.is) (c.are_never_free.ensures.0 c.if-are_never_free.true)
