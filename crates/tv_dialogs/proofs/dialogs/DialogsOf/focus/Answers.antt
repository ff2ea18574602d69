use Rattle.std.proofs.Common.{◌∙◌, Some, ap}
use Rattle.tv_dialogs.proofs.CurrentLemmas.{focus-none, focus-some}
use Rattle.tv_dialogs.proofs.dialogs.DialogsOf.focus.Goals as goal

pub returns-in-Some : goal.returns-in-Some
returns-in-Some g c d s are =
    ap (λ i. Some i) c.focus.ensures ∙ focus-some g.V.View.meaning d s c.args.self.now are c.in-Some.kept.now c.in-Some.ensures

pub returns-in-None : goal.returns-in-None
returns-in-None g c d s are = focus-none g.V.View.meaning d s c.args.self.now are c.in-None.ensures
