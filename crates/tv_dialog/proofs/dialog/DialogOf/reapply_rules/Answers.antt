use Rattle.std.proofs.Common.{rules, ◌≡◌, ◌∙◌, false, ap, sym}
use Rattle.tv_dialog.specs.declared.plan.Plan.{Plan}
use Rattle.tv_dialog.proofs.StandsLemmas.{restands, ruleless}
use Rattle.tv_dialog.proofs.dialog.DialogOf.reapply_rules.Goals as goal

pub returns-else-self-clause-stands : goal.returns-else-self-clause-stands
returns-else-self-clause-stands g c d ruled m lawful going s =
    let none : c.args.self.now.plan.has_rules ≡ false = search rules in
    restands g.V.View.meaning d ruled m.leaves m c.args.self.now (ruleless d ruled m.leaves (sym (ap (λ (p : Plan). p.has_rules) s.plan) ∙ none)) s
