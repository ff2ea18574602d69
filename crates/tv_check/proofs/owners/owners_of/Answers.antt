use Rattle.std.proofs.Common.{sym, ap, ◌∙◌}
use Rattle.std.specs.Option.{option_or}
use Rattle.tv_model.specs.Description.Owners.{owner_by}
use Rattle.tv_check.proofs.FirstOwnerLemmas.{owner_more}
use Rattle.tv_check.proofs.owners.owners_of.Goals as goal

pub loop-view-preserved : goal.loop-view-preserved
loop-view-preserved c = λ letter.
    c.in_ok-note_kind.ensures letter
    ∙ ap (λ found. option_or found (owner_by letter c.view-item.result.kind)) (c.loop-view.invariant letter)
    ∙ sym (owner_more c.args.views.now c.loop-view.view-index c.view-item.result letter c.loop-view-test.true c.view-item.is)
