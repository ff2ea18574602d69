use Rattle.std.proofs.Common.{subst}
use Rattle.std.specs.Prelude.{IfSome}
use Rattle.tv_warnings.specs.Findings.{IsRefusedEnd}
use Rattle.tv_warnings.proofs.FoundLemmas.{refused_more, refused_none}
use Rattle.tv_warnings.proofs.looking.add_refused.Goals as goal
use Rattle.tv_warnings.proofs.looking.add_refused.Goals.{in-Some+in_ok-push, in_default}

pub loop-way-init : goal.loop-way-init
loop-way-init c = refused_none c.args.placed.desc.now c.args.placed.place c.args.placed.dialog.now c.args.ways.now c.args.found.now.items

pub loop-way-preserved : goal.loop-way-preserved
loop-way-preserved c =
    let d = c.args.placed.desc.now in
    let place = c.args.placed.place in
    let dialog = c.args.placed.dialog.now in
    elim c.match-branch-2.branch [
      | in-Some+in_ok-push w ↦
          let own = subst (λ found. IfSome found (IsRefusedEnd d place dialog c.way-item.result)) w.in-Some.is (c.in_ok-end.ensures {u = tt}) in
          rw w.found-is (refused_more d place dialog c.args.ways.now c.loop-way.way-index c.way-item.result c.loop-way-test.true c.way-item.is c.args.found.now.items c.loop-way.found.items w.push.new.self.items w.in-Some.end c.loop-way.invariant own w.in_ok-push.ensures.items)
      | in_default w ↦ rw w.found-is c.loop-way.invariant
    ]
