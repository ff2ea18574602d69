-- What drawing each `shot` of a description's run comes to.
use Rattle.std.specs.Prelude.{◌≡◌, ℕ, List, Option, Result, Ok, Err}
use Rattle.tv_io.specs.Reader.{Given}
use Rattle.tv_io.specs.Reading.{BreaksOff, IsRead}
use Rattle.tv_machine.specs.Run.{Session, started}
use Rattle.tv_model.specs.declared.desc.Desc.{Desc}
use Rattle.tv_machine.specs.declared.script.Item.{Item}
use Rattle.tv_program.specs.declared.run_fault.RunFault.{RunFault}
use Rattle.tv_program.specs.declared.run_fault.RunFault.TheVariants.{NoMemory, Read, Script}
use Rattle.tv_program.specs.Playing.{IsNoStart, RefusesDesc}
use Rattle.tv_program.specs.Reading.{IsSoundText}
use Rattle.tv_program.specs.Albums.{Hung, Gains, GainsBefore}
use Rattle.tv_program.specs.declared.picture_fault.DrawingFault.{DrawingFault}
use Rattle.tv_program.specs.declared.picture_fault.DrawingFault.TheVariants.{Run, Shot}
use Rattle.tv_program.specs.Drawing.{GivesScriptOf}
use Rattle.tv_program.specs.Pictures.{named_shots}
use Rattle.tv_program.specs.Scripts.{most_of_script}
use Rattle.tv_script.specs.declared.script_text.ScriptFault.{ScriptFault}
use Rattle.tv_script.specs.declared.script_text.ScriptFault.TheVariants as scripts
use Rattle.tv_script.specs.Scripts.{RefusesScript}

-- why a script wasn't performed, by why it wasn't read
abbrev pub script_told : ScriptFault → RunFault
script_told scripts.NoMemory = NoMemory
script_told fault = Script fault

-- why the script of a description wasn't performed: it can't be read, or what was read is refused
abbrev pub LeavesScript : Desc → (reader left : Given) → RunFault → Type 0
LeavesScript d reader left NoMemory = Unit {0}
LeavesScript d reader left Read = BreaksOff most_of_script reader left
LeavesScript d reader left (Script fault) =
    (text : List ℕ) × IsRead most_of_script reader left text × RefusesScript d.width d.height text fault
LeavesScript d reader left _ = ⊥

-- A script is read to its end, and performed from a session on: the screen at each `shot` is drawn, or those
-- before one that failed. Where it isn't performed, none is.
abbrev pub ShotsFrom : Session → (name : List ℕ) → (reader left : Given)
    → (old new : Option Hung) → Result (Unit {0}) DrawingFault → Type 0
ShotsFrom s name reader left old new (Ok _) =
    (script : List Item) × GivesScriptOf s.desc reader left script × Gains old new (named_shots name s script)
ShotsFrom s name reader left old new (Err (Shot failed)) =
    (script : List Item) × GivesScriptOf s.desc reader left script
    × GainsBefore old new (named_shots name s script) failed
ShotsFrom s name reader left old new (Err (Run fault)) =
    LeavesScript s.desc reader left fault × (new ≡ old)

-- nothing was read of the script, and nothing was drawn
pub record IsUndrawn (reader left : Given) (old new : Option Hung) : Type 0 where
  pub unread : left ≡ reader
  pub undrawn : new ≡ old

-- Only a sound description is run, and the script is read only once its views were made. Then the screens of
-- the flat machine are drawn.
pub data ShotsTo (Mismade : Desc → Type 0) (text name : List ℕ) (reader left : Given)
    (old new : Option Hung) (result : Result (Unit {0}) DrawingFault) : Type 0 where
  refused : (fault : RunFault) → RefusesDesc text fault → IsUndrawn reader left old new
      → result ≡ Err (Run fault) → ShotsTo Mismade text name reader left old new result
  unbegun : (d : Desc) (fault : RunFault) → IsSoundText text d → IsNoStart Mismade d fault
      → IsUndrawn reader left old new → result ≡ Err (Run fault)
      → ShotsTo Mismade text name reader left old new result
  drawn : (d : Desc) → IsSoundText text d → ShotsFrom (started d) name reader left old new result
      → ShotsTo Mismade text name reader left old new result
