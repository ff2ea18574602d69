use Rattle.std.proofs.Common.{rules, arith, ◌≡◌, ◌∙◌, ◌<◌, ◌++◌, [], ◌∷◌, length, map, ap, sym, subst, nat_lt, refl}
use Rattle.std.specs.List.{filter}
use Rattle.std.proofs.lemmas.Fn.{filter_same}
use Rattle.tv_machine.specs.Dialog.Rules.{shows}
use Rattle.tv_machine.specs.Leaves.{PlacedNode, leaf_list, open_at}
use Rattle.tv_reach.specs.Shown.{IsMaskOf, IsShownLeaf}
use Rattle.tv_reach.proofs.PaneLemmas.{open_now, past_leaf, past_pane, zip_push}
use Rattle.tv_reach.proofs.shown.shown_leaves.Goals as goal
use Rattle.tv_reach.proofs.shown.shown_leaves.Goals.{then-is_pane+in_ok-insert, else-is_pane+in_ok-push}

pub loop-view-preserved : goal.loop-view-preserved
loop-view-preserved c =
    let view = c.view-item.result in
    let views = c.args.views.now in
    let done = c.loop-view.invariant.0 in
    let before = map (λ pane. pane.now) c.loop-view.panes.items in
    let retained : c.retain.new.self.items ≡ filter (λ pane. nat_lt pane.now.depth view.depth) c.loop-view.panes.items
    = filter_same _ _ _ (λ x b f' k. search rules) _ _ c.retain.ensures.filtered in
    let stay : map (λ pane. pane.now) c.retain.new.self.items ≡ open_at view.depth before
    = ap (map (λ pane. pane.now)) retained ∙ open_now view.depth c.loop-view.panes.items in
    let less : c.loop-view.view-index < length views = omega arith in
    elim c.if-is_pane.branch [
      | then-is_pane+in_ok-insert w ↦
          let opens : map (λ pane. pane.now) c.if-is_pane.panes.items ≡ view ∷ open_at view.depth before
          = ap (λ panes. map (λ pane. pane.now) panes.items) w.panes-is ∙ (ap (map (λ pane. pane.now)) w.in_ok-insert.ensures.items ∙ ap (λ ps. view ∷ ps) stay) in (
            done,
            past_pane done (leaf_list views) before _ views c.loop-view.view-index view less c.view-item.is (sym c.is_pane.ensures ∙ w.if-is_pane.true) opens c.loop-view.invariant.1,
            rw w.leaves-is c.loop-view.invariant.2,
          )
      | else-is_pane+in_ok-push w ↦
          let opens : map (λ pane. pane.now) c.if-is_pane.panes.items ≡ open_at view.depth before
          = ap (λ panes. map (λ pane. pane.now) panes.items) w.panes-is ∙ stay in
          let here : PlacedNode = record { node = view; panes = open_at view.depth before } in
          let panes : map (λ pane. pane.now) w.deref.result.now ≡ open_at view.depth before = ap (map (λ pane. pane.now)) w.deref.ensures.value ∙ stay in
          let by : IsMaskOf (λ rule. shows views here rule.effect) c.args.rules.now w.shown_by.result
          = subst (λ ps. IsMaskOf (λ rule. shows views (record { node = view; panes = ps }) rule.effect) c.args.rules.now w.shown_by.result) panes
          (subst (λ vs. IsMaskOf (λ rule. shows vs (record { node = view; panes = map (λ pane. pane.now) w.deref.result.now }) rule.effect) c.args.rules.now w.shown_by.result)
          c.requires.same w.shown_by.ensures) in (
            done ++ here ∷ [],
            past_leaf done (leaf_list views) before _ views c.loop-view.view-index view less c.view-item.is (sym c.is_pane.ensures ∙ w.if-is_pane.false) opens c.loop-view.invariant.1,
            rw (w.leaves-is, w.in_ok-push.ensures.items) (zip_push (IsShownLeaf views c.args.rules.now) done c.loop-view.leaves.items here _ c.loop-view.invariant.2 (record { node = refl; by = by })),
          )
    ]
