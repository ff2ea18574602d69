-- What drawing a description's run comes to.
use Rattle.std.specs.Prelude.{◌≡◌, ◌≢◌, ℕ, true, List, Result, Ok, Err}
use Rattle.tv_io.specs.Reader.{Given, IsReadSoFar}
use Rattle.tv_io.specs.Writer.{Cuts, Seen, Takes}
use Rattle.tv_machine.specs.Output.{after}
use Rattle.tv_machine.specs.Run.{started}
use Rattle.tv_model.specs.declared.desc.Desc.{Desc}
use Rattle.tv_machine.specs.declared.script.Item.{Item}
use Rattle.tv_program.specs.declared.run_fault.RunFault.{RunFault}
use Rattle.tv_program.specs.declared.run_fault.RunFault.TheVariants.{Write}
use Rattle.tv_program.specs.Playing.{RunsTo}
use Rattle.tv_program.specs.Reading.{IsSoundText}
use Rattle.tv_program.specs.Pictures.{session_svg}
use Rattle.tv_script.specs.Scripts.{SpellsAScript}

-- the reader came to its end, and all that it had spells the script of a description
pub record GivesScriptOf (d : Desc) (reader left : Given) (script : List Item) : Type 0 where
  pub given : List ℕ
  pub gave : IsReadSoFar reader left given
  pub ended : left.is_ended ≡ true
  pub spelled : SpellsAScript d.width d.height given script

-- A description is run on a script, its log and screens being dropped: where that fails, for another reason
-- than a writer's, nothing is written. Else the screen of the flat machine after the script is drawn.
pub data PicturesTo (Mismade : Desc → Type 0) (text : List ℕ) (reader left : Given) (old new : Seen)
    (result : Result (Unit {0}) RunFault) : Type 0 where
  unrun : (fault : RunFault) (log later : Seen) → fault ≢ Write
      → RunsTo Mismade (λ (run : Unit {0}) s. Unit {0}) text reader left log later (Err fault)
      → new ≡ old → result ≡ Err fault → PicturesTo Mismade text reader left old new result
  drawn : (d : Desc) (script : List Item) → IsSoundText text d → GivesScriptOf d reader left script
      → Takes old new (session_svg (after (started d) script)) → result ≡ Ok tt
      → PicturesTo Mismade text reader left old new result
  cut : (d : Desc) (script : List Item) → IsSoundText text d → GivesScriptOf d reader left script
      → Cuts old new (session_svg (after (started d) script)) → result ≡ Err Write
      → PicturesTo Mismade text reader left old new result
