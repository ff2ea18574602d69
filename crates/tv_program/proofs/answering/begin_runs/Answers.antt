use Rattle.std.proofs.Common.{◌≡◌, ◌∙◌, List, ℕ, ap, inl, subst, sym}
use Rattle.std.specs.List.{All}
use Rattle.std.proofs.lemmas.List.{nil_from_length}
use Rattle.std.proofs.lemmas.List.Elements.{All-map, All-push, All-same}
use Rattle.tv_declarations.specs.CanonicalDescription.{description_text}
use Rattle.tv_program.specs.declared.run_fault.RunFault.TheVariants.{NoMemory}
use Rattle.tv_program.specs.Answering.{AnsweredRun, IsUnbegun, RefusesRun, begun_text}
use Rattle.tv_program.specs.AnswerRuns.{RunsText, StandsBegun, run_of}
use Rattle.tv_program.specs.Playing.{IsMismade, Makes}
use Rattle.tv_program.specs.Reading.{IsSoundText}
use Rattle.tv_program.proofs.AnswerLemmas.{all-endings, ending_in, more-endings, next-Contains}
use Rattle.tv_program.proofs.AnsweredLemmas.{IfErr-told, ok-given}
use Rattle.std.proofs.Common.{map}
use Rattle.tv_program.proofs.answering.begin_runs.Goals as goal

pub returns-in_err-session-clause-fault : goal.returns-in_err-session-clause-fault
returns-in_err-session-clause-fault g c =
    let Mismade = IsMismade (Makes g.F.Fn c.args.make.now) g.V.View.meaning in
    let before = c.loop-ending.invariant in
    let ending = c.in-Some.ending in
    let fault = c.in_err-session.field-0.0 in
    let among = next-Contains (map ending_in c.loop-ending.runs.items) c.loop-ending.ending-iterator.rest.items c.next.new.self.rest.items c.args.endings.items ending c.in-Some.ensures.steps.0 before.ends in
    let refuses = subst (λ (t : List ℕ). RefusesRun Mismade t fault) (ap description_text (before.same ending.dialog)) c.in_err-session.ensures.fault in
    IfErr-told (IsUnbegun Mismade c.args.desc c.args.endings.items) fault (ending, among, refuses) c.from_residual.result c.from_residual.ensures.1

pub returns-then-is_err-clause-fault : goal.returns-then-is_err-clause-fault
returns-then-is_err-clause-fault g c =
    let before = c.loop-ending.invariant in
    let ending = c.in-Some.ending in
    (ending, next-Contains (map ending_in c.loop-ending.runs.items) c.loop-ending.ending-iterator.rest.items c.next.new.self.rest.items c.args.endings.items ending c.in-Some.ensures.steps.0 before.ends, inl tt)

pub loop-ending-preserved : goal.loop-ending-preserved
loop-ending-preserved g c =
    let look = g.V.View.meaning in
    let d = c.args.desc in
    let before = c.loop-ending.invariant in
    let ending = c.in-Some.ending in
    let session = c.in_ok-session.session in
    let runs = c.loop-ending.runs.items in
    let pushed = ok-given c.push.result c.push.new.self.items _ runs c.if-is_err.ensures.value c.push.ensures.items in
    let sound = subst (λ (t : List ℕ). IsSoundText t session.checked) (ap description_text (before.same ending.dialog)) c.in_ok-session.ensures.sound in
    record {
      same = λ name. c.in_ok-session.ensures.same name ∙ before.same name;
      ends = more-endings runs c.push.new.self.items _ c.loop-ending.ending-iterator.rest.items c.next.new.self.rest.items c.args.endings.items c.in-Some.ensures.steps.0 pushed before.ends;
      begun = All-same (RunsText d) c.push.new.self.items _ pushed (All-push (RunsText d) runs _ before.begun sound);
      stand = All-same (StandsBegun look) c.push.new.self.items _ pushed (All-push (StandsBegun look) runs _ before.stand c.in_ok-session.ensures.start);
    }

pub returns-clause-runs : goal.returns-clause-runs
returns-clause-runs g c =
    let before = c.loop-ending.invariant in
    let rest = c.loop-ending.ending-iterator.rest in
    let none = nil_from_length rest.items (sym rest.ok.0 ∙ c.in-None.ensures.steps.0) in
    record {
      ends = all-endings c.loop-ending.runs.items rest.items c.args.endings.items none before.ends;
      begun = All-map (λ (run : AnsweredRun). IsSoundText (begun_text c.args.desc run.ending.dialog) run.desc) run_of c.loop-ending.runs.items before.begun;
    }
