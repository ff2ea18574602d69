-- What a run in a terminal comes to that is recorded in a file.
use Rattle.std.specs.Prelude.{◌≡◌, ℕ, List, [], ◌∷◌, Result, Ok, Err}
use Rattle.tv_io.specs.Writer.{Seen}
use Rattle.tv_model.specs.declared.desc.Desc.{Desc}
use Rattle.tv_play.specs.Playing.{Ports}
use Rattle.tv_play.specs.declared.parting.Parting.{Parting}
use Rattle.tv_program.specs.Conversions.{run_told}
use Rattle.tv_program.specs.Playing.{RefusesDesc}
use Rattle.tv_program.specs.Reading.{IsSoundText}
use Rattle.tv_program.specs.Terminal.{PlaysText}
use Rattle.tv_program.specs.declared.album.AlbumFault.{AlbumFault}
use Rattle.tv_program.specs.declared.run_fault.RunFault.{RunFault}
use Rattle.tv_terminal.specs.declared.colour.Colours.{Colours}
use Rattle.tv_files.specs.declared.done.Done.{Done}
use Rattle.tv_files.specs.declared.done.Done.TheVariants.{Whole}
use Rattle.tv_files.specs.Ends.{End, done_of_play, end_of_record, end_of_run, end_of_tape, path_of_run}
use Rattle.tv_files.specs.Ends.End.{faulted}
use Rattle.tv_files.specs.Files.{FailsToMake, Known, MakesFile, longest}
use Rattle.tv_files.specs.Tasks.{GivesText, IsUnread, terminal}
use Rattle.tv_files.specs.World.{KnownWorld, ports_of}

-- the same, with a tape
abbrev pub with_tape : Ports → Seen → Ports
with_tape ports tape = record ports { tape = tape }

-- The file of the script is made once the description is found sound, and before the terminal is touched; no other is made.
-- What the user did is written into it
pub data RecordsFile (Mismade : Desc → Type 0) (IsTape : (path : List ℕ) (begun ended : Seen) → Type 0) (colours : Colours)
    (files after : Known) (file script : List ℕ) (old new : Ports) (how : Done) (end : End) : Type 0 where
  unread : IsUnread longest files after (file ∷ []) file end → new ≡ old → how ≡ Whole
      → RecordsFile Mismade IsTape colours files after file script old new how end
  refused : (text : List ℕ) (fault : RunFault) → GivesText longest files after (file ∷ []) file text
      → RefusesDesc text fault → new ≡ old → how ≡ Whole
      → end ≡ faulted (run_told fault) (path_of_run fault file terminal)
      → RecordsFile Mismade IsTape colours files after file script old new how end
  unmade : (text : List ℕ) (d : Desc) (fault : AlbumFault) (read : Known) → GivesText longest files read (file ∷ []) file text
      → IsSoundText text d → FailsToMake read after script fault → new ≡ old → how ≡ Whole → end ≡ end_of_tape script fault
      → RecordsFile Mismade IsTape colours files after file script old new how end
  played : (text : List ℕ) (d : Desc) (begun ended : Seen) (r : Result Parting RunFault) (read : Known)
      → GivesText longest files read (file ∷ []) file text → IsSoundText text d → MakesFile read after script
      → IsTape script begun ended → PlaysText Mismade colours text (with_tape old begun) (with_tape new ended) r
      → how ≡ done_of_play r → end ≡ end_of_record file script r
      → RecordsFile Mismade IsTape colours files after file script old new how end

-- a description is played and recorded, and no picture is drawn
abbrev pub RecordsIn : (Mismade : Desc → Type 0) → (IsTape : (path : List ℕ) (begun ended : Seen) → Type 0) → Colours
    → (file script : List ℕ) → (old new : KnownWorld) → Done → End → Type 0
RecordsIn Mismade IsTape colours file script old new how end =
    (new.album ≡ old.album)
    × RecordsFile Mismade IsTape colours old.files new.files file script (ports_of old) (ports_of new) how end
