use Rattle.std.proofs.Common.{rules, subst}
use Rattle.tv_group.specs.Outline.{IsFreshBody}
use Rattle.tv_session.specs.Freshness.{IsFreshBodyFor}
use Rattle.tv_app.proofs.DeclaredLemmas.{zip_more}
use Rattle.tv_app.proofs.making.bodies_of.Goals as goal

pub loop-dialog-preserved : goal.loop-dialog-preserved
loop-dialog-preserved g c =
    zip_more (IsFreshBodyFor g.V.View.meaning) c.args.declared.now c.loop-dialog.dialog-index c.dialog-item.result c.loop-dialog.bodies.items c.push.new.self.items c.in_ok-body_of.field-0
    c.loop-dialog-test.true c.dialog-item.is c.loop-dialog.invariant (search rules)
    (subst (λ views. IsFreshBody g.V.View.meaning c.dialog-item.result.node views c.in_ok-body_of.field-0) c.as_slice.ensures c.in_ok-body_of.ensures)
