use Rattle.std.proofs.Common.{◌≤◌, [], length, sym, subst}
use Rattle.tv_view.specs.contracts.view.BoxDynViewView.TheImpl.{meaning-value}
use Rattle.tv_group.specs.Calls.{FitsAll, HasRoomForAll}
use Rattle.tv_group.specs.Opened.{opened}
use Rattle.tv_dialogs.proofs.CornerLemmas.{lawful-corner}
use Rattle.tv_dialogs.proofs.ValueLemmas.{lawful-limited}
use Rattle.tv_run_tests.proofs.FreshLemmas.{fresh_fits, fresh_room}
use Rattle.tv_run_tests.proofs.opening.open.Goals as goal

pub new-requires-clause-limited : goal.new-requires-clause-limited
new-requires-clause-limited g c = lawful-limited c.args.declared.now c.requires

pub new-requires-clause-corner : goal.new-requires-clause-corner
new-requires-clause-corner g c = lawful-corner c.args.declared.now c.requires

pub record-requires : goal.record-requires
record-requires g c =
    let look = (meaning-value (g.dyn-1.0, g.dyn-1.1)).it in
    let few : length c.as_slice-views.result.now ≤ 64 = subst (λ views. length views ≤ 64) (sym c.as_slice-views.ensures) c.requires.count in
    subst (λ entries. HasRoomForAll (opened look c.in-Ok.dialog.body) entries) (sym c.new-first.ensures)
    (subst (λ body. HasRoomForAll (opened look body) []) (sym c.in-Ok.ensures.body)
    (fresh_room look c.args.declared.now.node c.as_slice-views.result.now c.args.body (c.is_fresh.ensures.0 c.if-not-is_fresh.false) few))

pub reopen-requires : goal.reopen-requires
reopen-requires g c =
    let look = (meaning-value (g.dyn-1.0, g.dyn-1.1)).it in
    subst (λ body. FitsAll c.unwrap_or-values.result.now (opened look body)) (sym c.in-Ok.ensures.body)
    (fresh_fits look c.args.declared.now.node c.as_slice-views.result.now c.args.body (c.is_fresh.ensures.0 c.if-not-is_fresh.false)
    c.unwrap_or-values.result.now c.in_ok-expect_fit.ensures)
