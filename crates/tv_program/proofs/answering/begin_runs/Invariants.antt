use Rattle.std.proofs.Common.{◌≡◌, ◌++◌, ℕ, List, map}
use Rattle.std.specs.List.{All}
use Rattle.tv_program.specs.Answering.{begun_with}
use Rattle.tv_program.specs.AnswerRuns.{RunsText, StandsBegun}
use Rattle.tv_program.proofs.answering.begin_runs.Given as goal

-- the runs so far are begun, for the first of the ends
abbrev pub invariant-loop-ending : goal.invariant-loop-ending
invariant-loop-ending g l = record {
  same : (name : List ℕ) → begun_with l.desc name ≡ begun_with l.fn.desc name;
  ends : map (λ run. run.ending) l.runs.items ++ l.ending-iterator.rest.items ≡ l.fn.endings.items;
  begun : All (RunsText l.fn.desc) l.runs.items;
  stand : All (StandsBegun g.V.View.meaning) l.runs.items;
}
