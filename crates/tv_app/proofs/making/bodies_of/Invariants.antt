use Rattle.std.proofs.Common.{take}
use Rattle.std.specs.List.{AllZip}
use Rattle.tv_session.specs.Freshness.{IsFreshBodyFor}
use Rattle.tv_app.proofs.making.bodies_of.Given as goal

abbrev pub invariant-loop-dialog : goal.invariant-loop-dialog
invariant-loop-dialog g l = AllZip (IsFreshBodyFor g.V.View.meaning) (take l.dialog-index l.declared) l.bodies.items
