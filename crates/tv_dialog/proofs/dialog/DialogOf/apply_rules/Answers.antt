use Rattle.std.proofs.Common.{◌∙◌, refl, ap}
use Rattle.std.specs.Prelude.{is_none}
use Rattle.tv_dialog.specs.Plan.{is_enabled_in_plan, shown_by}
use Rattle.tv_dialog.proofs.ReopenLemmas.{stands-applied, stands-rests, unended}
use Rattle.tv_dialog.proofs.dialog.DialogOf.apply_rules.Goals as goal

pub returns-clause-stands : goal.returns-clause-stands
returns-clause-stands g c d ruled m lawful going s =
    let look = g.V.View.meaning in
    let plan = c.args.self.now.plan in
    stands-applied look d lawful m _ c.args.self.now _ going (stands-rests look d ruled m c.args.self.now s) s.focus s.log
    (s.open ∙ ap is_none going) (unended c.args.self.now.ended (s.ended ∙ going)) refl refl refl refl refl refl c.gather.ensures
    (λ few. c.update.ensures.shown few ∙ ap (shown_by plan) c.get.ensures)
    (λ number less. c.update.ensures.commands number less ∙ ap (λ marks. is_enabled_in_plan plan marks number) c.get.ensures)
    c.as_slice.ensures.value refl c.apply.ensures.leaves

pub returns-clause-anew : goal.returns-clause-anew
returns-clause-anew g c d m lawful going s focus log opens fresh =
    let plan = c.args.self.now.plan in
    stands-applied g.V.View.meaning d lawful m _ c.args.self.now _ going s focus log opens fresh refl refl refl refl refl refl c.gather.ensures
    (λ few. c.update.ensures.shown few ∙ ap (shown_by plan) c.get.ensures)
    (λ number less. c.update.ensures.commands number less ∙ ap (λ marks. is_enabled_in_plan plan marks number) c.get.ensures)
    c.as_slice.ensures.value refl c.apply.ensures.leaves
