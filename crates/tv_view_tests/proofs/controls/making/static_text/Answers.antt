use Rattle.tv_view.proofs.CoreLemmas.{limited_small}
use Rattle.tv_view_tests.proofs.controls.making.static_text.Goals as goal

pub new-requires : goal.new-requires
new-requires c = limited_small c.args.node.now c.requires.limited
