use Rattle.std.proofs.Common.{◌∙◌, false, ap, slice_index_or}
use Rattle.tv_dialogs.proofs.CurrentLemmas.{enabled-none, enabled-some}
use Rattle.tv_dialogs.proofs.dialogs.DialogsOf.commands.Goals as goal

pub returns-in-Some : goal.returns-in-Some
returns-in-Some g c d s are number less =
    ap (λ set. slice_index_or set number false) c.commands.ensures
    ∙ enabled-some g.V.View.meaning d s c.args.self.now are c.in-Some.kept.now c.in-Some.ensures number less

pub returns-in-None : goal.returns-in-None
returns-in-None g c d s are number less = enabled-none g.V.View.meaning d s c.args.self.now are c.in-None.ensures number less
