use Rattle.std.proofs.Common.{subst}
use Rattle.tv_model.specs.declared.desc.Desc.{Desc}
use Rattle.tv_ways.specs.Wording.{AreSayable}
use Rattle.tv_ways.proofs.answering.is_found.Goals as goal

pub returns-then-has_reached : goal.returns-then-has_reached
returns-then-has_reached c = λ e s runs. (
  c.has_reached.ensures c.if-has_reached.true s runs,
  subst (λ (d : Desc). AreSayable d c.args.events.now) (c.desc.ensures s runs) (c.are_sayable.ensures e),
)
