use Rattle.std.proofs.Common.{◌≡◌, ◌++◌, flat_map, drop}
use Rattle.tv_model.specs.Faults.{faults_at, faults_of}
use Rattle.tv_faults.proofs.list.faults.Given as goal

abbrev pub invariant-loop-kind : goal.invariant-loop-kind
invariant-loop-kind l = l.found ++ flat_map (λ kind. faults_at kind l.desc) (drop l.kind-index l.kind-items) ≡ faults_of l.desc
