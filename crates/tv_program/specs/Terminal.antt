-- What playing a description in a terminal comes to.
use Rattle.std.specs.Prelude.{◌≡◌, ℕ, List, Result, Ok, Err}
use Rattle.tv_machine.specs.Run.{started}
use Rattle.tv_model.specs.declared.desc.Desc.{Desc}
use Rattle.tv_play.specs.Playing.{PlaysTo, Ports}
use Rattle.tv_play.specs.declared.parting.Parting.{Parting}
use Rattle.tv_play.specs.declared.parting.PlayFault.{PlayFault}
use Rattle.tv_program.specs.declared.run_fault.RunFault.{RunFault}
use Rattle.tv_terminal.specs.declared.colour.Colours.{Colours}
use Rattle.tv_program.specs.Conversions.{terminal_run}
use Rattle.tv_program.specs.Playing.{IsNoStart, RefusesDesc}
use Rattle.tv_program.specs.Reading.{IsSoundText}

-- the answer, with the fault told as that of the call
abbrev pub told_of : Result Parting PlayFault → Result Parting RunFault
told_of (Ok parting) = Ok parting
told_of (Err fault) = Err (terminal_run fault)

-- A description, played in a terminal, in some colours. Only a sound one is played, from its start. Where it is refused, or no
-- run is begun, nothing was read or written. The session isn't handed back.
pub data PlaysText (Mismade : Desc → Type 0) (colours : Colours) (text : List ℕ) (old new : Ports)
    (result : Result Parting RunFault) : Type 0 where
  refused : (fault : RunFault) → RefusesDesc text fault → new ≡ old → result ≡ Err fault
      → PlaysText Mismade colours text old new result
  unbegun : (d : Desc) (fault : RunFault) → IsSoundText text d → IsNoStart Mismade d fault → new ≡ old
      → result ≡ Err fault → PlaysText Mismade colours text old new result
  played : (d : Desc) (outcome : Result Parting PlayFault) → IsSoundText text d
      → PlaysTo colours (started d) old new (λ s. Unit {0}) outcome → result ≡ told_of outcome
      → PlaysText Mismade colours text old new result
