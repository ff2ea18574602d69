-- What is told of a fault stands on its lines.
use Rattle.std.specs.Prelude.{◌≡◌, Some, IfSome}
use Rattle.tv_model.specs.Faults.{fault_number}
use Rattle.tv_explain.specs.declared.explaining.Explained.{Explained}
use Rattle.tv_advice.specs.declared.advice.Advice.{Advice}

-- the advice has the fault's number, and speaks of its line; where it speaks of another line, that is the
-- other one
pub record IsAdviceOn (fault : Explained) (advice : Advice) : Type 0 where
  pub number : advice.number ≡ fault_number fault.fault.kind
  pub own : advice.own.line ≡ fault.line
  pub other : IfSome advice.other (λ note. fault.other ≡ Some note.line)
