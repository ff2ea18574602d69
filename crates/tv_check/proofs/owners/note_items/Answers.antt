use Rattle.std.proofs.Common.{Some, None, cond, ap, ◌∙◌}
use Rattle.std.specs.Option.{option_or}
use Rattle.tv_model.specs.Controls.Owner.{item_at}
use Rattle.tv_model.specs.Description.Marks.{marks}
use Rattle.tv_check.specs.Owners.{owner_for}
use Rattle.tv_check.proofs.FirstOwnerLemmas.{item_more}
use Rattle.tv_check.proofs.owners.note_items.Goals as goal

pub loop-place-preserved : goal.loop-place-preserved
loop-place-preserved c = λ letter.
    c.in_ok-note.ensures letter
    ∙ ap (λ owner. option_or (owner_for c.loop-place.owners letter) (cond (marks letter c.index-items-place.result) (Some owner) None)) c.item_at.ensures
    ∙ ap (λ found. option_or found (cond (marks letter c.index-items-place.result) (Some (item_at c.args.name.now c.loop-place.place)) None)) (c.loop-place.invariant letter)
    ∙ item_more (item_at c.args.name.now) (marks letter) c.args.items.now c.loop-place.place c.index-items-place.result (owner_for c.args.owners.now letter) c.loop-place-test.true c.index-items-place.is
