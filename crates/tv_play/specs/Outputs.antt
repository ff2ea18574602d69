-- Where a run in a terminal is written.
use Rattle.std.specs.Prelude.{◌≡◌}
use Rattle.tv_io.specs.Writer.{Seen}
use Rattle.tv_play.specs.Pieces.{Heard}
use Rattle.tv_play.specs.Playing.{Ports}
use Rattle.tv_play.specs.declared.outputs.Outputs.{Outputs as Lent}

-- the same writers are lent, for the same colours
pub record HasSameOutputs {T W R : Type 0} (old new : Lent T W R) : Type 0 where
  pub screen : new.screen.ghost_name ≡ old.screen.ghost_name
  pub colours : new.colours ≡ old.colours
  pub log : new.log.ghost_name ≡ old.log.ghost_name
  pub tape : new.tape.ghost_name ≡ old.tape.ghost_name

-- what they took, beside an input
abbrev pub ports_with : {T W R : Type 0} → (T → Seen) → (W → Seen) → (R → Seen) → Heard → Lent T W R → Ports
ports_with screen log tape input o =
    record { input = input; log = log o.log.now; screen = screen o.screen.now; tape = tape o.tape.now }
