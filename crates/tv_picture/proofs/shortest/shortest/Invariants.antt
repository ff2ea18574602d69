use Rattle.std.proofs.Common.{◌≡◌, List, [], drop}
use Rattle.std.specs.Prelude.{Some}
use Rattle.tv_picture.specs.Pattern.{Pattern, IsShortest}
use Rattle.tv_picture.specs.Code.{run, height_from}
use Rattle.tv_picture.specs.Machine.{StandsBelow}
use Rattle.tv_picture.proofs.shortest.shortest.Given as goal

abbrev pub invariant-loop-op : goal.invariant-loop-op
invariant-loop-op l = (height_from l.stack.height (drop l.op-index l.code) ≡ Some 1) × ((ps : List Pattern) × (run ps (drop l.op-index l.code) ≡ run [] l.code) × StandsBelow IsShortest l.stack.lengths l.stack.height ps)
