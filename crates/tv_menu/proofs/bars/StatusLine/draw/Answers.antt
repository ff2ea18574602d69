use Rattle.std.proofs.Common.{All, ap, subst, sym, ◌∙◌}
use Rattle.tv_model.specs.Description.Numbers.{natural}
use Rattle.tv_menu.specs.Lawful.{IsLawfulStatusItem}
use Rattle.tv_menu.proofs.DrawingLemmas.{status_drawn}
use Rattle.tv_menu.proofs.bars.StatusLine.draw.Goals as goal

pub returns-clause-layers : goal.returns-clause-layers
returns-clause-layers c = λ d s r of are seen.
    status_drawn d s r c.args.enabled.now c.as_slice.result.now c.natural.result c.args.canvas c.moved.result c.corner.result c.args.screen.now c.lay.new.screen
    (c.as_slice.ensures ∙ of.items) (c.natural.ensures ∙ ap natural of.width) are (subst (All IsLawfulStatusItem) (sym c.as_slice.ensures) c.args.self.now.lawful.each) seen (c.corner.ensures.is d of) c.moved.ensures c.lay.ensures.size c.lay.ensures.shows
