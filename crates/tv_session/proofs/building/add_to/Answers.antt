use Rattle.std.proofs.Common.{◌-◌, arith}
use Rattle.tv_session.proofs.KeptLemmas.{same_innermost}
use Rattle.tv_session.proofs.ListLemmas.{last_of}
use Rattle.tv_session.proofs.ResultLemmas.{if_err, on_ok}
use Rattle.tv_session.proofs.building.add_to.Goals as goal

pub returns-in-Some-clause-added : goal.returns-in-Some-clause-added
returns-in-Some-clause-added g c =
    let item = c.in-Some.ensures.item in
    let last = last_of c.args.begun.now.items c.in-Some.innermost.now c.in-Some.innermost.now (c.args.begun.now.len - 1) (omega (arith, item.3.0, c.args.begun.now.ok.0)) item.1 in
    on_ok (λ added. record {
      outer = last.outer;
      before = c.in-Some.innermost.now;
      after = c.add.new.self;
      was = last.whole;
      is = last.set c.add.new.self;
      node = c.add.ensures.node;
      members = added;
    }) c.add.result c.add.ensures.added

pub returns-in-Some-clause-kept : goal.returns-in-Some-clause-kept
returns-in-Some-clause-kept g c =
    let begun = c.args.begun.now in
    let before = c.in-Some.innermost.now in
    let item = c.in-Some.ensures.item in
    let last = last_of begun.items before before (begun.len - 1) (omega (arith, item.3.0, begun.ok.0)) item.1 in
    if_err (λ _. same_innermost last.outer before c.add.new.self begun.items _ last.whole (last.set c.add.new.self) c.add.ensures.node) c.add.result c.add.ensures.kept
