use Rattle.std.proofs.Common.{rules}
use Rattle.tv_session.specs.Freshness.{IsFreshFor}
use Rattle.tv_app.proofs.DeclaredLemmas.{zip_more}
use Rattle.tv_app.proofs.making.windows_of.Goals as goal

pub loop-window-preserved : goal.loop-window-preserved
loop-window-preserved g c =
    zip_more (IsFreshFor g.V.View.meaning) c.args.declared.now c.loop-window.window-index c.window-item.result c.loop-window.windows.items c.push.new.self.items c.in_ok-window_of.field-0
    c.loop-window-test.true c.window-item.is c.loop-window.invariant (search rules) c.in_ok-window_of.ensures
