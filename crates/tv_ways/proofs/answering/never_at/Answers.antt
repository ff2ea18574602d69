use Rattle.std.proofs.Common.{Option, subst}
use Rattle.std.specs.Prelude.{IfSome}
use Rattle.tv_reach.specs.declared.answer.Reason.{Reason}
use Rattle.tv_reach.specs.Answers.{IsNever}
use Rattle.tv_ways.proofs.answering.never_at.Goals as goal
use Rattle.tv_ways.proofs.answering.never_at.Goals.{in-Some, in-None}

pub returns-clause-answer : goal.returns-clause-answer
returns-clause-answer c =
    let dialog = c.args.outline.now.dialog.now in
    elim c.match-branch-2.branch [
      | in-Some w ↦
          let found = subst (λ (o : Option Reason). IfSome o (λ why. IsNever c.args.desc.now dialog c.args.goal why)) w.in-Some.is c.in_ok-reason.ensures in
          rw w.result-is (record {
            dialog = dialog;
            there = c.requires.there;
            never = found;
            unreached = c.never_reached.ensures c.args.place dialog found.0 c.args.goal w.in-Some.reason c.requires.there found.1 found.2;
          })
      | in-None w ↦ rw w.result-is tt
    ]

pub returns-clause-sayable : goal.returns-clause-sayable
returns-clause-sayable c =
    elim c.match-branch-2.branch [
      | in-Some w ↦ rw w.result-is tt
      | in-None w ↦ rw w.result-is tt
    ]
