use Rattle.std.proofs.Common.{arith}
use Rattle.tv_app.proofs.SettingLemmas.{one_added}
use Rattle.tv_app.proofs.setting.ordered.Goals as goal

pub loop-view-preserved : goal.loop-view-preserved
loop-view-preserved c =
    one_added c.args.values.now c.loop-view.ordered _ c.view-item.result c.args.views.now c.loop-view.view-index _ (omega arith) c.view-item.is
    c.add_field.ensures c.loop-view.invariant
