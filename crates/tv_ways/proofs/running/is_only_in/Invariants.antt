use Rattle.tv_ways.proofs.RunningLemmas.{IsOnlyBefore}
use Rattle.tv_ways.proofs.running.is_only_in.Given as goal

abbrev pub invariant-loop-at : goal.invariant-loop-at
invariant-loop-at l = IsOnlyBefore l.dialogs l.place l.id l.at
