use Rattle.std.proofs.Common.{arith}
use Rattle.tv_picture.specs.Pattern.{IsShortest}
use Rattle.tv_picture.specs.Code.{patterns_after}
use Rattle.tv_picture.proofs.Stacks.{stands_made}
use Rattle.tv_picture.proofs.shortest.Lengths.apply.Goals as goal

pub returns-clause-lengths : goal.returns-clause-lengths
returns-clause-lengths c = λ ps s. stands_made IsShortest c.args.self.now.lengths c.made-place.result.0 c.made-place.result.1 (patterns_after ps c.args.op) (omega arith) (c.made-place.ensures.length ps s)
