use Rattle.std.proofs.Common.{ap, arith}
use Rattle.std.proofs.lemmas.Int.{ints}
use Rattle.tv_cells.specs.declared.rect.Point.{Point}
use Rattle.tv_app.proofs.PaneLemmas.{earlier-lawful, last-limited}
use Rattle.tv_app.proofs.panes.+corner_within.Goals as goal

pub corner_within-requires : goal.corner_within-requires
corner_within-requires t c =
    let cases = c.in-Some.ensures.cases in
    (omega (arith, cases.1), earlier-lawful c.args.before.now c.in-Some.earlier.now c.in-Some.view.now cases.0 c.requires)

pub corner_within-requires-else-view-panes : goal.corner_within-requires-else-view-panes
corner_within-requires-else-view-panes t c =
    let cases = c.in-Some.ensures.cases in
    (omega (arith, cases.1), earlier-lawful c.args.before.now c.in-Some.earlier.now c.in-Some.view.now cases.0 c.requires)

pub shift-requires-clause-by : goal.shift-requires-clause-by
shift-requires-clause-by t c =
    let limited = last-limited c.args.before.now c.in-Some.earlier.now c.in-Some.view.now c.in-Some.ensures.cases.0 c.requires in
    record {
      x = record { low = omega (arith, ints, limited.x.0); high = omega (arith, ints, limited.x.1) };
      y = record { low = omega (arith, ints, limited.y.0); high = omega (arith, ints, limited.y.1) };
    }

pub returns-then-view-panes-clause-within : goal.returns-then-view-panes-clause-within
returns-then-view-panes-clause-within t c =
    let limited = last-limited c.args.before.now c.in-Some.earlier.now c.in-Some.view.now c.in-Some.ensures.cases.0 c.requires in
    let within = c.corner_within.ensures.within in
    let less = c.if-view-panes.true in
    let x = ap (λ (p : Point). p.x) c.shift.ensures in
    let y = ap (λ (p : Point). p.y) c.shift.ensures in (
      record { low = omega (arith, ints, x, less, within.0.low, limited.x.0); high = omega (arith, ints, x, less, within.0.high, limited.x.1) },
      record { low = omega (arith, ints, y, less, within.1.low, limited.y.0); high = omega (arith, ints, y, less, within.1.high, limited.y.1) },
    )

pub returns-then-view-panes-clause-small : goal.returns-then-view-panes-clause-small
returns-then-view-panes-clause-small t c =
    let within = returns-then-view-panes-clause-within t c in
    let few = c.ranges.panes.fits in (
      record { low = omega (arith, ints, few, within.0.low); high = omega (arith, ints, few, within.0.high) },
      record { low = omega (arith, ints, few, within.1.low); high = omega (arith, ints, few, within.1.high) },
    )
