use Rattle.std.proofs.Common.{refl}
use Rattle.tv_dialog.proofs.NewLemmas.{new-rests}
use Rattle.tv_dialog.proofs.dialog.DialogOf.new.Goals as goal

pub returns-in-Ok-clause-fresh : goal.returns-in-Ok-clause-fresh
returns-in-Ok-clause-fresh g c d own seen ruled lawful fresh =
    new-rests g.V.View.meaning d c.args.node.now c.args.views.now c.args.rules.now c.args.body _ own seen ruled lawful fresh c.in-Ok.ensures.head c.in-Ok.ensures.plan refl
    c.in-Ok.ensures.empty.0
