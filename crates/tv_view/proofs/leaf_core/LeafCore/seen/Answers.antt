use Rattle.std.proofs.Common.{◌≡◌, ◌∙◌, ap, false, rules, subst}
use Rattle.tv_cells.specs.Canvas.{sub}
use Rattle.tv_cells.specs.Rectangle.{IsEmpty}
use Rattle.tv_view.specs.Core.{leaf_with}
use Rattle.tv_view.proofs.ClippingLemmas.{lays-hidden, lays-missed}
use Rattle.tv_view.proofs.leaf_core.LeafCore.seen.Goals as goal

pub returns-then-not-self-clause-none : goal.returns-then-not-self-clause-none
returns-then-not-self-clause-none c env content picture =
    let hidden : c.args.self.now.is_shown ≡ false = search rules in
    lays-hidden env c.args.canvas (leaf_with c.args.self.now content) picture hidden

pub returns-then-is_empty-clause-none : goal.returns-then-is_empty-clause-none
returns-then-is_empty-clause-none c env content picture =
    lays-missed env c.args.canvas (leaf_with c.args.self.now content) picture
    (subst (λ d. IsEmpty d.clip) (c.sub-seen.ensures ∙ ap (sub c.args.canvas) c.bounds.ensures.is) (c.is_empty.ensures.0 c.if-is_empty.true))
