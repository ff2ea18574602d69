use Rattle.std.proofs.Common.{◌≡◌, false, sym, ◌∙◌}
use Rattle.tv_group.specs.Opened.{opened}
use Rattle.tv_dialog.specs.Settling.{may_take}
use Rattle.tv_group.proofs.DamageLemmas.{all-drawn-refl}
use Rattle.tv_dialog.proofs.UntakenLemmas.{untaken-answer, untaken-after}
use Rattle.tv_dialog.proofs.turn.offer.Goals as goal

pub returns-else-may_take : goal.returns-else-may_take
returns-else-may_take g c =
    let xs = opened g.V.View.meaning c.args.body.now in
    let none : may_take c.args.event.now c.args.phase ≡ false = sym c.may_take.ensures ∙ c.if-may_take.false in
    record {
      reaction = sym (untaken-answer c.args.event.now c.args.phase c.args.env.now xs none);
      after = sym (untaken-after c.args.event.now c.args.phase c.args.env.now xs none);
      drawn = all-drawn-refl xs c.args.damage.now;
    }
