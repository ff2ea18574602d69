-- Why nothing is played in a terminal, and what comes of it where it is.
use Rattle.std.proofs.Common.{◌≡◌, ℕ, List, Result, Ok, Err, IsErrAnd, refl}
use Rattle.tv_machine.specs.Run.{Session, started}
use Rattle.tv_model.specs.declared.desc.Desc.{Desc}
use Rattle.tv_play.specs.Playing.{Plays, PlaysTo, Ports}
use Rattle.tv_play.specs.declared.parting.Parting.{Parting}
use Rattle.tv_play.specs.declared.parting.PlayFault.{PlayFault}
use Rattle.tv_play.specs.declared.parting.PlayFault.TheVariants as terminals
use Rattle.tv_program.specs.declared.run_fault.RunFault.{RunFault}
use Rattle.tv_terminal.specs.declared.colour.Colours.{Colours}
use Rattle.tv_program.specs.Conversions.{terminal_run}
use Rattle.tv_program.specs.Playing.{IsNoStart, RefusesDesc}
use Rattle.tv_program.specs.Reading.{IsSoundText}
use Rattle.tv_program.specs.Terminal.{PlaysText}
use Rattle.tv_program.specs.Terminal.PlaysText.{refused, unbegun, played}
use Rattle.tv_program.proofs.RunLemmas.{err-is}

-- what a run left is of no matter
module _ (colours : Colours) (s : Session) (old new : Ports) (Left : Session → Type 0) where
  Plays-gone : (outcome : Result Parting PlayFault) → Plays colours s old new Left outcome → Plays colours s old new (λ s. Unit {0}) outcome
  Plays-gone outcome p = record {
    symbols = p.symbols;
    actions = p.actions;
    rest = p.rest;
    heard = p.heard;
    left = tt;
    frames = p.frames;
    shows = p.shows;
    restores = p.restores;
    comes = p.comes;
  }

  pub PlaysTo-gone : (outcome : Result Parting PlayFault) → PlaysTo colours s old new Left outcome → PlaysTo colours s old new (λ s. Unit {0}) outcome
  PlaysTo-gone (Ok parting) p = Plays-gone (Ok parting) p
  PlaysTo-gone (Err terminals.NoMemory) p = record { ports = p.ports; left = tt }
  PlaysTo-gone (Err terminals.Read) p = Plays-gone (Err terminals.Read) p
  PlaysTo-gone (Err terminals.Log) p = Plays-gone (Err terminals.Log) p
  PlaysTo-gone (Err terminals.Screen) p = Plays-gone (Err terminals.Screen) p
  PlaysTo-gone (Err terminals.Tape) p = Plays-gone (Err terminals.Tape) p

module _ (Mismade : Desc → Type 0) (colours : Colours) (text : List ℕ) (ports : Ports) where
  -- the description is refused
  pub refused-PlaysText : (fault : RunFault) → RefusesDesc text fault → (r : Result Parting RunFault) → IsErrAnd r (λ told. told ≡ fault) → PlaysText Mismade colours text ports ports r
  refused-PlaysText fault is r told = refused fault is refl (err-is fault r told)

  module _ (d : Desc) (read : IsSoundText text d) where
    -- no views were made, or they were refused
    pub unbegun-PlaysText : (fault : RunFault) → IsNoStart Mismade d fault → (r : Result Parting RunFault) → IsErrAnd r (λ told. told ≡ fault) → PlaysText Mismade colours text ports ports r
    unbegun-PlaysText fault unmade r told = unbegun d fault read unmade refl (err-is fault r told)

    -- it ended, or was left
    pub parted-PlaysText : (new : Ports) (Left : Session → Type 0) (parting : Parting) → PlaysTo colours (started d) ports new Left (Ok parting) → PlaysText Mismade colours text ports new (Ok parting)
    parted-PlaysText new Left parting plays = played d (Ok parting) read (PlaysTo-gone colours (started d) ports new Left (Ok parting) plays) refl

    -- it was broken off
    pub broken-PlaysText : (new : Ports) (Left : Session → Type 0) (fault : PlayFault) → PlaysTo colours (started d) ports new Left (Err fault) → (r : Result Parting RunFault) → IsErrAnd r (λ told. told ≡ terminal_run fault) → PlaysText Mismade colours text ports new r
    broken-PlaysText new Left fault plays r told = played d (Err fault) read (PlaysTo-gone colours (started d) ports new Left (Err fault) plays) (err-is (terminal_run fault) r told)
