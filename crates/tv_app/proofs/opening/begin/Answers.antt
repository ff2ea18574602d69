use Rattle.std.proofs.Common.{subst}
use Rattle.tv_app.proofs.opening.begin.Goals as goal
use Rattle.tv_session.specs.Starting.{RefusesViews}
use Rattle.tv_app.specs.Control.{control_leaf}

pub unreachable-requires : goal.unreachable-requires
unreachable-requires c =
    let views = c.in_ok-views.views in
    c.in_ok-views.ensures.accepted c.in-ViewMismatch.field-0
    (subst (RefusesViews control_leaf c.args.checked views.windows.items views.bodies.items) c.in-ViewMismatch.is c.in-Err.ensures.mismatch)
