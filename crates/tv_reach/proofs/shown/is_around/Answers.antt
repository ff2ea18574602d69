use Rattle.std.proofs.Common.{◌≡◌, ◌∙◌, false, rules}
use Rattle.tv_model.specs.Description.Nodes.{has_id}
use Rattle.tv_reach.proofs.PaneLemmas.{any_now}
use Rattle.tv_reach.proofs.shown.is_around.Goals as goal

pub returns-else-eq : goal.returns-else-eq
returns-else-eq c =
    let other : has_id c.args.target c.args.leaf.node.now ≡ false = search rules in
    rw other (c.any_has.ensures ∙ any_now c.args.target c.args.leaf.panes.now)
