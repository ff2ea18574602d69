-- How a task ends.
use Rattle.std.specs.Prelude.{ℕ, List, Result, Ok, Err, codes, string_bytes}
use Rattle.tv_program.specs.declared.album.AlbumFault.TheVariants as albums
use Rattle.tv_program.specs.declared.album.AlbumFault.{AlbumFault}
use Rattle.tv_program.specs.declared.picture_fault.DrawingFault.{DrawingFault}
use Rattle.tv_program.specs.declared.picture_fault.DrawingFault.TheVariants as pictures
use Rattle.tv_program.specs.declared.picture_fault.ShotFault.{ShotFault}
use Rattle.tv_program.specs.Naming.{shot_name}
use Rattle.tv_play.specs.declared.parting.Parting.{Parting}
use Rattle.tv_play.specs.declared.parting.Parting.TheVariants as partings
use Rattle.tv_program.specs.declared.trouble.Trouble.{Trouble}
use Rattle.tv_program.specs.declared.trouble.Trouble.TheVariants.{NoMemory, Read, Cert, Answers}
use Rattle.tv_program.specs.declared.trouble.Trouble.TheVariants.{Misfits, NoAnswers, Disabled, Unended}
use Rattle.tv_program.specs.declared.run_fault.RunFault.{RunFault}
use Rattle.tv_program.specs.declared.run_fault.RunFault.TheVariants as runs
use Rattle.tv_program.specs.Conversions.{run_told}
use Rattle.tv_files.specs.declared.done.Done.{Done}
use Rattle.tv_files.specs.declared.done.Done.TheVariants.{Whole, BrokenOff}
use Rattle.tv_files.specs.declared.failure.Failure.{Failure}
use Rattle.tv_files.specs.declared.failure.Failure.TheVariants as failures
use Rattle.tv_io.specs.declared.read_fault.ReadFault.{ReadFault}
use Rattle.tv_io.specs.declared.read_fault.ReadFault.TheVariants as unread

-- all was done; or there was a fault, with the path of the file that it is told of; or a picture or a tape
-- can't be written into the file of its path; or no box is made, for what the message says; or the end that is
-- asked for isn't reached, for what the message says
pub data End : Type 0 where
  ended : End
  faulted : Trouble → (path : List ℕ) → End
  unwritten : (path : List ℕ) → End
  unboxed : (message : List ℕ) → End
  wayless : (path message : List ℕ) → End

-- the end where the file of a tape can't be made
abbrev pub end_of_tape : (script : List ℕ) → AlbumFault → End
end_of_tape script albums.NoMemory = faulted NoMemory script
end_of_tape script albums.Write = unwritten script

-- the end that a failure tells
abbrev pub end_of_failure : Failure → End
end_of_failure (failures.Fault fault path) = faulted fault path.now
end_of_failure (failures.Picture script number) = unwritten (shot_name script.now number)
end_of_failure (failures.Box message) = unboxed (string_bytes message)
end_of_failure (failures.Tape script) = unwritten script.now
end_of_failure (failures.NoWay path message) = wayless path.now message.items

-- the end that an answer tells
abbrev pub end_of : {T : Type 0} → Result T Failure → End
end_of (Ok _) = ended
end_of (Err failure) = end_of_failure failure

-- how the task was done. One that failed counts as whole
abbrev pub done_in : {F : Type 0} → Result Done F → Done
done_in (Ok done) = done
done_in (Err fault) = Whole

-- how a description was played
abbrev pub done_by : Parting → Done
done_by partings.Over = Whole
done_by partings.Left = BrokenOff
done_by partings.Ended = BrokenOff

-- the same by the answer of the call
abbrev pub done_of_play : {F : Type 0} → Result Parting F → Done
done_of_play (Ok parting) = done_by parting
done_of_play (Err fault) = Whole

-- the file that a fault is in: the description, or the certificate or the answers beside it
abbrev pub path_of : Trouble → (file beside : List ℕ) → List ℕ
path_of (Cert fault) file beside = beside
path_of (Answers fault) file beside = beside
path_of Misfits file beside = beside
path_of NoAnswers file beside = beside
path_of (Disabled ending) file beside = beside
path_of (Unended ending) file beside = beside
path_of _ file beside = file

-- the file that a fault of a run is in: the description, or the script where that is at fault or can't be
-- read
abbrev pub path_of_run : RunFault → (file script : List ℕ) → List ℕ
path_of_run (runs.Script fault) file script = script
path_of_run runs.Read file script = script
path_of_run _ file script = file

-- why the bytes of a file aren't there
abbrev pub file_told : ReadFault → Trouble
file_told unread.NoMemory = NoMemory
file_told unread.Read = Read

-- the end where a call of the program answered this
abbrev pub end_as : {T F : Type 0} → (F → Trouble) → (file beside : List ℕ) → Result T F → End
end_as told file beside (Ok _) = ended
end_as told file beside (Err fault) = faulted (told fault) (path_of (told fault) file beside)

-- the end where a run answered this
abbrev pub end_of_run : {T : Type 0} → (file script : List ℕ) → Result T RunFault → End
end_of_run file script (Ok _) = ended
end_of_run file script (Err fault) = faulted (run_told fault) (path_of_run fault file script)

-- the end where a run in a terminal answered this, with its tape
abbrev pub end_of_record : {T : Type 0} → (file script : List ℕ) → Result T RunFault → End
end_of_record file script (Err runs.Tape) = unwritten script
end_of_record file script r = end_of_run file (codes "standard input") r

-- the end where a picture of a script isn't there
abbrev pub end_of_album : (script : List ℕ) → (number : ℕ) → AlbumFault → End
end_of_album script number albums.NoMemory = faulted NoMemory script
end_of_album script number albums.Write = unwritten (shot_name script number)

abbrev pub end_of_shot : (script : List ℕ) → ShotFault → End
end_of_shot script shot = end_of_album script shot.number shot.fault

-- the end where drawing the shots of a script answered this
abbrev pub end_of_shots : {T : Type 0} → (file script : List ℕ) → Result T DrawingFault → End
end_of_shots file script (Ok _) = ended
end_of_shots file script (Err (pictures.Run fault)) =
    faulted (run_told fault) (path_of_run fault file script)
end_of_shots file script (Err (pictures.Shot shot)) = end_of_shot script shot
