use Rattle.std.proofs.Common.{◌≡◌, ◌++◌, ℕ, List, false}
use Rattle.std.specs.List.{All, find}
use Rattle.tv_io.specs.Pen.{Puts}
use Rattle.tv_program.specs.Answering.{runs_log, stays_open}
use Rattle.tv_program.specs.AnswerRuns.{StandsBegun, runs_of}
use Rattle.tv_program.proofs.answering.put_runs.Given as goal

-- the dialogs so far ended, and their logs were put
abbrev pub invariant-loop-begun : goal.invariant-loop-begun
invariant-loop-begun g l =
    let left = runs_of l.begun-iterator.rest.items in
    let all = runs_of l.fn.runs.items in
    record {
      going : l.pen.stopped ≡ false;
      stand : All (StandsBegun g.V.View.meaning) l.begun-iterator.rest.items;
      text : (front : List ℕ) × Puts g.W.Writer.seen l.fn.pen l.pen front × (front ++ runs_log left ≡ runs_log all);
      found : find stays_open left ≡ find stays_open all;
    }
