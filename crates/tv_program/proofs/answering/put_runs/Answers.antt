use Rattle.std.proofs.Common.{◌≡◌, ◌++◌, ℕ, false, List, ◌∷◌, [], map, rules, refl, sym, ap, subst, ◌∙◌, append_assoc}
use Rattle.std.specs.List.{All, find}
use Rattle.std.proofs.lemmas.List.{append-nil, nil_from_length}
use Rattle.std.proofs.lemmas.List.Elements.{All-head, All-same, All-tail}
use Rattle.tv_io.proofs.PenLemmas.{Puts-along, Puts-none, Puts-then}
use Rattle.tv_program.specs.Answering.{AnsweredRun, run_log, runs_log, stays_open}
use Rattle.tv_program.specs.AnswerRuns.{StandsBegun, run_of, runs_of}
use Rattle.tv_program.proofs.AnswerLemmas.{find-goes_on, last-ends, log-goes_on, puts-last}
use Rattle.tv_program.proofs.answering.put_runs.Goals as goal

pub loop-begun-init : goal.loop-begun-init
loop-begun-init g c =
    let rest = c.into_iter-begun-iterator.result.rest.items in
    let same : rest ≡ c.args.runs.items = search rules in
    record {
      going = c.requires.going;
      stand = All-same (StandsBegun g.V.View.meaning) rest c.args.runs.items same c.requires.stand;
      text = ([], Puts-none, ap runs_log (ap runs_of same));
      found = ap (find stays_open) (ap runs_of same);
    }

pub put_run-requires : goal.put_run-requires
put_run-requires g c = record {
  going = c.loop-begun.invariant.going;
  stands = All-head (StandsBegun g.V.View.meaning) c.in-Some.begun _ (All-same (StandsBegun g.V.View.meaning) _ _ (sym c.in-Some.ensures.steps.0) c.loop-begun.invariant.stand);
}

pub loop-begun-preserved : goal.loop-begun-preserved
loop-begun-preserved g c =
    let before = c.loop-begun.invariant in
    let run = run_of c.in-Some.begun in
    let left = runs_of c.loop-begun.begun-iterator.rest.items in
    let others = runs_of c.next.new.self.rest.items in
    let all = runs_of c.args.runs.items in
    let next : left ≡ run ∷ others = ap runs_of c.in-Some.ensures.steps.0 in
    let ended : stays_open run ≡ false = c.in_ok-put_run.ensures.comes.1 in
    record {
      going = c.in_ok-put_run.ensures.comes.0;
      stand = All-tail (StandsBegun g.V.View.meaning) c.in-Some.begun _ (All-same (StandsBegun g.V.View.meaning) _ _ (sym c.in-Some.ensures.steps.0) before.stand);
      text = (
        before.text.0 ++ run_log run,
        Puts-then before.text.1 c.put_run.ensures.text,
        append_assoc before.text.0 (run_log run) (runs_log others)
            ∙ ap (λ (t : List ℕ). before.text.0 ++ t) (sym (log-goes_on run others ended))
            ∙ ap (λ (rs : List AnsweredRun). before.text.0 ++ runs_log rs) (sym next)
            ∙ before.text.2,
      );
      found = sym (find-goes_on run others ended) ∙ ap (find stays_open) (sym next) ∙ before.found;
    }

pub returns-in_err-put_run-clause-text : goal.returns-in_err-put_run-clause-text
returns-in_err-put_run-clause-text g c =
    let before = c.loop-begun.invariant in
    let run = run_of c.in-Some.begun in
    let others = runs_of c.next.new.self.rest.items in
    let next = ap runs_of c.in-Some.ensures.steps.0 in
    puts-last before.text.0 (runs_log (runs_of c.args.runs.items)) run others c.in_err-put_run.field-0.0 c.in_err-put_run.ensures.comes before.text.1 c.put_run.ensures.text
    (ap (λ (rs : List AnsweredRun). before.text.0 ++ runs_log rs) (sym next) ∙ before.text.2)

pub returns-in_err-put_run-clause-comes : goal.returns-in_err-put_run-clause-comes
returns-in_err-put_run-clause-comes g c =
    let before = c.loop-begun.invariant in
    let run = run_of c.in-Some.begun in
    let others = runs_of c.next.new.self.rest.items in
    let next = ap runs_of c.in-Some.ensures.steps.0 in
    last-ends (runs_of c.args.runs.items) others run _ (ap (find stays_open) (sym next) ∙ before.found) c.in_err-put_run.field-0.0 c.in_err-put_run.ensures.comes
    c.from_residual.result c.from_residual.ensures.1

pub returns-clause-text : goal.returns-clause-text
returns-clause-text g c =
    let before = c.loop-begun.invariant in
    let rest = c.loop-begun.begun-iterator.rest in
    let none = nil_from_length rest.items (sym rest.ok.0 ∙ c.in-None.ensures.steps.0) in
    Puts-along (sym (append-nil before.text.0) ∙ ap (λ (rs : List AnsweredRun). before.text.0 ++ runs_log rs) (sym (ap runs_of none)) ∙ before.text.2) before.text.1

pub returns-clause-comes : goal.returns-clause-comes
returns-clause-comes g c =
    let before = c.loop-begun.invariant in
    let rest = c.loop-begun.begun-iterator.rest in
    let none = nil_from_length rest.items (sym rest.ok.0 ∙ c.in-None.ensures.steps.0) in
    (before.going, sym before.found ∙ ap (find stays_open) (ap runs_of none))
