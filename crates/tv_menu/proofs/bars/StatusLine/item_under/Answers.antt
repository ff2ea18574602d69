use Rattle.std.proofs.Common.{None, Some, option_copied, ap, sym, ◌∙◌}
use Rattle.tv_menu.specs.Spots.{seen_spot}
use Rattle.tv_menu.proofs.LineLemmas.{item_found}
use Rattle.tv_menu.proofs.bars.StatusLine.item_under.Goals as goal

pub returns-in_err-spot-clause-is : goal.returns-in_err-spot-clause-is
returns-in_err-spot-clause-is c = λ d of. ap option_copied c.from_residual.ensures
    ∙ item_found d c.args.column.now c.args.self.now.width c.natural.result c.as_slice.result.now None (c.as_slice.ensures ∙ of.items) of.width c.natural.ensures
    (sym c.has_column.ensures ∙ c.if-not-has_column.false) (λ first. c.in_err-spot.ensures.is first)

pub returns-clause-is : goal.returns-clause-is
returns-clause-is c = λ d of.
    item_found d c.args.column.now c.args.self.now.width c.natural.result c.as_slice.result.now (seen_spot (Some c.in_ok-spot.spot)) (c.as_slice.ensures ∙ of.items) of.width c.natural.ensures
    (sym c.has_column.ensures ∙ c.if-not-has_column.false) (λ first. c.in_ok-spot.ensures.is first)
