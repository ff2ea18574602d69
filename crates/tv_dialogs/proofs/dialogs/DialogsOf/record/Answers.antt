use Rattle.std.proofs.Common.{Some, ap, sym, ◌∙◌}
use Rattle.tv_dialogs.proofs.RecordLemmas.{none-next, some-next}
use Rattle.tv_dialogs.proofs.dialogs.DialogsOf.record.Goals as goal

pub returns-in-Some : goal.returns-in-Some
returns-in-Some g c d s are =
    ap (λ values. Some values) c.get.ensures
    ∙ some-next g.V.View.meaning d s c.args.self.now are c.args.place c.in-Some.kept.now (sym c.in-Some.ensures)

pub returns-in-None : goal.returns-in-None
returns-in-None g c d s are = none-next g.V.View.meaning d s c.args.self.now are c.args.place (sym c.in-None.ensures)
