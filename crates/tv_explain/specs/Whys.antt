-- Why a line has a fault.
use Rattle.std.specs.Prelude.{ℕ, Option, None}
use Rattle.tv_explain.specs.declared.why.Why.{Why}
use Rattle.tv_explain.specs.declared.why.Reason.{Reason}
use Rattle.tv_explain.specs.declared.why.Reason.TheVariants as reasons

-- a reason, and the other line that has to do with it
abbrev pub because : Reason → Option ℕ → Why
because reason other = record { reason = reason; other = other }

-- the only reason that the fault can have, and another line
abbrev pub from_line : Option ℕ → Why
from_line other = because reasons.Itself other

-- the only reason that the fault can have, and no other line
abbrev pub itself : Why
itself = from_line None
