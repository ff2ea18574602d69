-- What telling the ways of a description comes to.
use Rattle.std.specs.Prelude.{◌≡◌, ℕ, List, Option, Result, Ok, Err}
use Rattle.tv_advice.specs.declared.manner.Manner.TheVariants.{Plain}
use Rattle.tv_advice.specs.Told.{SpellsSound}
use Rattle.tv_files.specs.Ends.{End, done_in, end_as}
use Rattle.tv_files.specs.Explaining.{EndsThere, ExplainsTo}
use Rattle.tv_files.specs.Files.{Known}
use Rattle.tv_files.specs.Tasks.{OnFile}
use Rattle.tv_files.specs.declared.done.Done.{Done}
use Rattle.tv_files.specs.declared.done.Done.TheVariants.{Whole, Faulty}
use Rattle.tv_io.specs.Writer.{Cuts, Seen, Takes}
use Rattle.tv_model.specs.declared.desc.Desc.{Desc}
use Rattle.tv_program.specs.declared.trouble.Trouble.{Trouble}
use Rattle.tv_program.specs.declared.trouble.Trouble.TheVariants as faults
use Rattle.tv_ways.specs.Asking.{AreAllWays}
use Rattle.tv_ways.specs.Listing.{ways_text}
use Rattle.tv_ways.specs.declared.asking.DialogWays.{DialogWays}

-- the lines of right answers to all goals were written, or a proper prefix of them
abbrev pub WritesLines : Desc → (writes : (text : List ℕ) → Type 0) → Type 0
WritesLines d writes = (all : List DialogWays) × AreAllWays d all × writes (ways_text d all)

abbrev pub WritesWays : Desc → (old new : Seen) → Result (Unit {0}) Trouble → Type 0
WritesWays d old new (Ok _) = WritesLines d (Takes old new)
WritesWays d old new (Err faults.NoMemory) = new ≡ old
WritesWays d old new (Err faults.Write) = WritesLines d (Cuts old new)
WritesWays d old new (Err _) = ⊥

-- how the task was done where faults were told, or couldn't be
abbrev pub done_faulty : Result (Option Desc) Trouble → Result Done Trouble
done_faulty (Ok found) = Ok Faulty
done_faulty (Err fault) = Err fault

-- how it was done where the lines were written, or couldn't be
abbrev pub done_whole : Result (Unit {0}) Trouble → Result Done Trouble
done_whole (Ok _) = Ok Whole
done_whole (Err fault) = Err fault

-- the faults of the text are told as by `explain`; where it has none, its ways are written
pub data WaysTo (name text : List ℕ) (old new : Seen) (r : Result Done Trouble) : Type 0 where
  faulty : (told : Result (Option Desc) Trouble) → ExplainsTo Plain name text old new told → EndsThere told
      → r ≡ done_faulty told → WaysTo name text old new r
  sound : (d : Desc) (written : Result (Unit {0}) Trouble) → SpellsSound text d → WritesWays d old new written
      → r ≡ done_whole written → WaysTo name text old new r

-- the same, told as an end
abbrev pub WaysAs : (file : List ℕ) → (old new : Seen) → Done → End → (text : List ℕ) → Type 0
WaysAs file old new how end text =
    (r : Result Done Trouble) × WaysTo file text old new r × (how ≡ done_in r)
    × (end ≡ end_as (λ fault. fault) file file r)

-- the file is read, and its ways are written
abbrev pub WaysFile : (files after : Known) → (file : List ℕ) → (old new : Seen) → Done → End → Type 0
WaysFile files after file old new how end =
    OnFile (WaysAs file old new how end) files after file old new end
