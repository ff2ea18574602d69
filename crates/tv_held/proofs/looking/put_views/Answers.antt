use Rattle.std.proofs.Common.{List, ap, ℕ}
use Rattle.tv_held.specs.Looking.{field_text}
use Rattle.tv_io.proofs.PenLemmas.{Puts-along, Puts-more}
use Rattle.tv_model.specs.Log.Record.{value_of}
use Rattle.tv_model.specs.declared.node.Node.{Node}
use Rattle.tv_held.proofs.looking.put_views.Goals as goal

pub loop-view-preserved : goal.loop-view-preserved
loop-view-preserved g c =
    let text : Node → List ℕ = λ view. field_text c.args.desc.now view.id (value_of c.args.values.now view.id.0) in
    Puts-more text c.args.views.now c.loop-view.view-index c.view-item.result c.loop-view-test.true c.loop-view.invariant
    (Puts-along (ap text c.view-item.is) c.put_view.ensures)
