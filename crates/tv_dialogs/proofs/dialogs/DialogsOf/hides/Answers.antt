use Rattle.std.proofs.Common.{sym, ap, ◌∙◌}
use Rattle.tv_cells.specs.Damage.{is_part}
use Rattle.tv_dialogs.specs.Damage.{lies_in}
use Rattle.tv_dialogs.proofs.HidingLemmas.{hidden-below}
use Rattle.tv_dialogs.proofs.dialogs.DialogsOf.hides.Goals as goal

pub returns-in-Some-clause-within : goal.returns-in-Some-clause-within
returns-in-Some-clause-within g c = c.has_part.ensures ∙ ap (is_part c.args.rect) c.bounds.ensures.is ∙ ap (lies_in c.args.rect) c.in-Some.ensures

pub returns-in-Some-clause-hidden : goal.returns-in-Some-clause-hidden
returns-in-Some-clause-hidden g c d s are on is =
    hidden-below g.V.View.meaning d s c.args.self.now are c.in-Some.kept.now c.in-Some.ensures c.bounds.result c.args.rect c.bounds.ensures.is (sym c.has_part.ensures ∙ is) on
