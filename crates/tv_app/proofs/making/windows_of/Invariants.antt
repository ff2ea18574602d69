use Rattle.std.proofs.Common.{take}
use Rattle.std.specs.List.{AllZip}
use Rattle.tv_session.specs.Freshness.{IsFreshFor}
use Rattle.tv_app.proofs.making.windows_of.Given as goal

abbrev pub invariant-loop-window : goal.invariant-loop-window
invariant-loop-window g l = AllZip (IsFreshFor g.V.View.meaning) (take l.window-index l.declared) l.windows.items
