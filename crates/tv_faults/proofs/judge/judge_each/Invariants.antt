use Rattle.std.proofs.Common.{◌≡◌, ◌++◌, map, take, drop}
use Rattle.tv_model.specs.Faults.Lines.{after_seen}
use Rattle.tv_model.specs.Faults.Each.{each_after}
use Rattle.tv_faults.proofs.judge.judge_each.Given as goal

abbrev pub invariant-loop-i : goal.invariant-loop-i
invariant-loop-i g l = l.judged.items ++ map (λ pair. g.J.Judge.judges l.judge pair.0 pair.1) (after_seen (take l.i l.lines) (drop l.i l.lines)) ≡ each_after (g.J.Judge.judges l.judge) l.lines
