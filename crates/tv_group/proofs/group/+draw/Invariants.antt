use Rattle.tv_view.specs.Drawing.{leaves_layers}
use Rattle.tv_cells.specs.Layers.{Lays}
use Rattle.tv_group.proofs.OpenedLemmas.{opened_to}
use Rattle.tv_group.proofs.group.+draw.Given as goal

abbrev pub invariant-GroupOf::draw-loop-member : goal.invariant-GroupOf::draw-loop-member
invariant-GroupOf::draw-loop-member g l =
    Lays (leaves_layers l.env l.inner (opened_to g.V.View.meaning l.self.current l.member-index l.self.members.items)) l.initial.screen l.screen
