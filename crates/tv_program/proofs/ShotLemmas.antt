-- What a script that isn't performed comes to.
use Rattle.std.proofs.Common.{◌≡◌, ℕ, List, Option, Result, Ok, Err, IsErrAnd, ap, refl}
use Rattle.tv_io.specs.Reader.{Given}
use Rattle.tv_io.specs.Reading.{IsRead}
use Rattle.tv_machine.specs.Run.{Session}
use Rattle.tv_model.specs.declared.desc.Desc.{Desc}
use Rattle.tv_program.specs.Albums.{Hung}
use Rattle.tv_program.specs.declared.picture_fault.DrawingFault.{DrawingFault}
use Rattle.tv_program.specs.declared.picture_fault.DrawingFault.TheVariants.{Run}
use Rattle.tv_program.specs.Scripts.{most_of_script}
use Rattle.tv_program.specs.Shots.{LeavesScript, ShotsFrom, ShotsTo, script_told}
use Rattle.tv_program.specs.Shots.ShotsTo.{refused, unbegun}
use Rattle.tv_program.specs.declared.run_fault.RunFault.{RunFault}
use Rattle.tv_program.specs.Playing.{IsNoStart, RefusesDesc}
use Rattle.tv_program.specs.Reading.{IsSoundText}
use Rattle.tv_script.specs.declared.script_text.ScriptFault.{ScriptFault}
use Rattle.tv_script.specs.declared.script_text.ScriptFault.TheVariants as scripts
use Rattle.tv_script.specs.Scripts.{RefusesScript}

module _ (s : Session) (name : List ℕ) (reader left : Given) (text : List ℕ) (read : IsRead most_of_script reader left text) where
  leaves : (fault : ScriptFault) → RefusesScript s.desc.width s.desc.height text fault → LeavesScript s.desc reader left (script_told fault)
  leaves scripts.NoMemory refuses = tt
  leaves (scripts.Syntax line) refuses = (text, read, refuses)
  leaves (scripts.OffScreen line) refuses = (text, read, refuses)
  leaves scripts.TooLong refuses = (text, read, refuses)

  -- what was read is refused
  pub refused-ShotsFrom : (pictures : Option Hung) (fault : ScriptFault) → RefusesScript s.desc.width s.desc.height text fault → (r : Result (Unit {0}) DrawingFault) → IsErrAnd r (λ told. told ≡ Run (script_told fault)) → ShotsFrom s name reader left pictures pictures r
  refused-ShotsFrom pictures fault refuses (Ok x) told = absurd told
  refused-ShotsFrom pictures fault refuses (Err other) told = rw told (leaves fault refuses, refl)

module _ (Mismade : Desc → Type 0) (text name : List ℕ) (reader : Given) (pictures : Option Hung) where
  err-is : (fault : DrawingFault) (r : Result (Unit {0}) DrawingFault) → IsErrAnd r (λ told. told ≡ fault) → r ≡ Err fault
  err-is fault (Ok x) told = absurd told
  err-is fault (Err other) told = ap Err told

  -- the description is refused
  pub refused-ShotsTo : (fault : RunFault) → RefusesDesc text fault → (r : Result (Unit {0}) DrawingFault) → IsErrAnd r (λ told. told ≡ Run fault) → ShotsTo Mismade text name reader reader pictures pictures r
  refused-ShotsTo fault refuses r told = refused fault refuses (record { unread = refl; undrawn = refl }) (err-is (Run fault) r told)

  -- no views were made, or they were refused
  pub unbegun-ShotsTo : (d : Desc) → IsSoundText text d → (fault : RunFault) → IsNoStart Mismade d fault → (r : Result (Unit {0}) DrawingFault) → IsErrAnd r (λ told. told ≡ Run fault) → ShotsTo Mismade text name reader reader pictures pictures r
  unbegun-ShotsTo d read fault unmade r told = unbegun d fault read unmade (record { unread = refl; undrawn = refl }) (err-is (Run fault) r told)
