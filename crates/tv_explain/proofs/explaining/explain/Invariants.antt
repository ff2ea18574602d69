use Rattle.std.proofs.Common.{◌≡◌, ◌++◌, map, drop}
use Rattle.tv_model.specs.Faults.{faults_of}
use Rattle.tv_explain.specs.Explaining.{explained}
use Rattle.tv_explain.proofs.explaining.explain.Given as goal

abbrev pub invariant-loop-fault : goal.invariant-loop-fault
invariant-loop-fault l =
    l.list ++ map (explained l.text l.outline) (drop l.fault-index l.fault-items) ≡ map (explained l.text l.outline) (faults_of l.desc)
