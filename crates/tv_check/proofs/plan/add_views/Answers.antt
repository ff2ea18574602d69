use Rattle.std.proofs.Common.{◌+◌, ◌≡◌, rules}
use Rattle.std.proofs.lemmas.Result.{on_ok_weaker}
use Rattle.tv_declarations.specs.Spelling.{open_panes_after}
use Rattle.tv_check.proofs.PlanLemmas.{counted_after, view_added, views_added}
use Rattle.tv_check.proofs.plan.add_views.Goals as goal

pub loop-view-preserved : goal.loop-view-preserved
loop-view-preserved c =
    let panes : c.from-depth.result + c.from.result ≡ open_panes_after c.view-item.result = counted_after c.view-item.result c.is_pane.result c.from-depth.result c.from.result (search rules) (search rules) (search rules) in (
      rw panes
          (view_added c.loop-view.plan.items c.close.new.plan.items c.push.new.self.items c.step_of.result c.loop-view.panes c.loop-view.view-index c.view-item.result c.args.views.now _
          c.loop-view-test.true c.view-item.is c.loop-view.invariant.0 (search rules) (search rules) c.step_of.ensures),
      search rules,
    )

pub returns : goal.returns
returns c = on_ok_weaker c.close-2.result (λ closed. views_added c.loop-view.plan.items c.close-2.new.plan.items c.loop-view.panes c.loop-view.view-index c.args.views.now _ c.loop-view-test.false c.loop-view.invariant.0 closed) c.close-2.ensures
