use Rattle.std.proofs.Common.{refl, subst}
use Rattle.tv_dialogs.specs.Bodies.{AreNew}
use Rattle.tv_dialogs.proofs.BodyLemmas.{new-dialogs}
use Rattle.tv_dialogs.proofs.dialogs.DialogsOf.new.Goals as goal

pub returns-clause-dialogs : goal.returns-clause-dialogs
returns-clause-dialogs g c =
    let look = g.V.View.meaning in
    new-dialogs look c.args.desc.now _ (subst (λ ds. AreNew look ds c.in_ok-kept.kept.items) c.as_slice.ensures c.in_ok-kept.ensures.kept) refl refl c.all.ensures
