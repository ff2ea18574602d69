use Rattle.std.proofs.Common.{◌∙◌, ap, sym}
use Rattle.tv_cells.specs.Damage.{is_part}
use Rattle.tv_session.proofs.run.RunOf.hides_below.Goals as goal

pub returns : goal.returns
returns g c s r is =
    c.hides.ensures.hidden c.args.desc.now s r.dialogs (ap (is_part c.args.rect) (sym c.desktop.ensures) ∙ sym c.has_part.ensures ∙ c.if-not-has_part.false) is
