use Rattle.std.proofs.Common.{rules, arith, ◌≡◌, ◌∙◌, ◌<◌, ◌∷◌, length, map, ap, sym, nat_lt}
use Rattle.std.specs.List.{filter}
use Rattle.std.proofs.lemmas.Fn.{filter_same}
use Rattle.tv_machine.specs.Leaves.{PlacedNode, open_at}
use Rattle.tv_dialog.specs.Plan.{conditions_among, conditions_of, leaf_plan}
use Rattle.tv_dialog.proofs.PaneLemmas.{open_now, past_leaf, past_pane}
use Rattle.tv_dialog.proofs.plan.leaf_plans.Goals as goal
use Rattle.tv_dialog.proofs.plan.leaf_plans.Goals.{then-is_pane+in_ok-insert, else-is_pane+in_ok-kept_conditions+in_ok-push}

pub loop-view-preserved : goal.loop-view-preserved
loop-view-preserved c =
    let view = c.view-item.result in
    let plan = leaf_plan c.args.views.now c.args.rules.now in
    let before = map (λ pane. pane.now) c.loop-view.panes.items in
    let retained : c.retain.new.self.items ≡ filter (λ pane. nat_lt pane.now.depth view.depth) c.loop-view.panes.items
    = filter_same _ _ _ (λ x b f' k. search rules) _ _ c.retain.ensures.filtered in
    let stay : map (λ pane. pane.now) c.retain.new.self.items ≡ open_at view.depth before
    = ap (map (λ pane. pane.now)) retained ∙ open_now view.depth c.loop-view.panes.items in
    let less : c.loop-view.view-index < length c.args.views.now = omega arith in
    elim c.if-is_pane.branch [
      | then-is_pane+in_ok-insert w ↦
          let opens : map (λ pane. pane.now) c.if-is_pane.panes.items ≡ view ∷ open_at view.depth before
          = ap (λ panes. map (λ pane. pane.now) panes.items) w.panes-is ∙ (ap (map (λ pane. pane.now)) w.in_ok-insert.ensures.items ∙ ap (λ ps. view ∷ ps) stay) in
          rw w.leaves-is (past_pane plan c.loop-view.leaves _ before _ c.args.views.now c.loop-view.view-index view less c.view-item.is (sym c.is_pane.ensures ∙ w.if-is_pane.true) opens c.loop-view.invariant)
      | else-is_pane+in_ok-kept_conditions+in_ok-push w ↦
          let opens : map (λ pane. pane.now) c.if-is_pane.panes.items ≡ open_at view.depth before = ap (λ panes. map (λ pane. pane.now) panes.items) w.panes-is ∙ stay in
          let here : PlacedNode = record { node = view; panes = open_at view.depth before } in
          let conditions : w.in_ok-kept_conditions.field-0 ≡ conditions_of c.args.views.now c.args.rules.now here
          = w.in_ok-kept_conditions.ensures
          ∙ ap (λ ps. conditions_among (record { node = view; panes = ps }) w.as_slice.result.now) (ap (map (λ pane. pane.now)) w.deref.ensures.value ∙ stay)
          ∙ ap (conditions_among here) (w.as_slice.ensures ∙ c.in_ok-showings.ensures) in
          past_leaf plan c.loop-view.leaves c.if-is_pane.leaves _ (record { id = view.id; is_button = w.is_button.result; shown_when = w.in_ok-kept_conditions.field-0 })
          before _ c.args.views.now c.loop-view.view-index view less c.view-item.is (sym c.is_pane.ensures ∙ w.if-is_pane.false) opens (w.leaves-is ∙ w.in_ok-push.ensures.ok)
          (cc (conditions, w.is_button.ensures)) c.loop-view.invariant
    ]
