use Rattle.std.proofs.Common.{take}
use Rattle.std.specs.Prelude.{All}
use Rattle.tv_script.specs.Tapes.{IsSayable}
use Rattle.tv_ways.proofs.wording.are_sayable.Given as goal

abbrev pub invariant-loop-event : goal.invariant-loop-event
invariant-loop-event l = All (IsSayable l.desc.width l.desc.height) (take l.event-index l.events)
