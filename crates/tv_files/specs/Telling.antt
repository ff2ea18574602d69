-- What is told of how a task ended, and the status.
use Rattle.std.specs.Prelude.{◌≡◌, ℕ, List, [], ◌∷◌, ◌++◌, codes, string_bytes}
use Rattle.tv_model.specs.Log.LogText.{line_of}
use Rattle.tv_io.specs.Writer.{Fails, Seen, Takes}
use Rattle.tv_program.specs.declared.trouble.Trouble.TheVariants.{NoMemory, Write}
use Rattle.tv_program.specs.Report.{IsOffered, err_text, out_text, status_of}
use Rattle.tv_files.specs.declared.done.Done.{Done}
use Rattle.tv_files.specs.declared.done.Done.TheVariants.{Whole, Faulty, BrokenOff}
use Rattle.tv_files.specs.declared.no_task.NoTask.{NoTask}
use Rattle.tv_files.specs.declared.no_task.NoTask.TheVariants as no_tasks
use Rattle.tv_files.specs.Ends.{End}
use Rattle.tv_files.specs.Ends.End.{ended, faulted, unboxed, unwritten, wayless}
use Rattle.tv_files.specs.Streams.{IsWritten, Offers}

-- what standard output is offered
abbrev pub out_told : End → List ℕ
out_told ended = []
out_told (faulted fault path) = out_text fault
out_told (unwritten path) = []
out_told (unboxed message) = []
out_told (wayless path message) = []

-- the message of a picture that can't be written into the file of its path
abbrev pub unwritten_message : (path : List ℕ) → List ℕ
unwritten_message path = line_of (codes "tvdlg: ") (codes "cannot write " ++ path)

-- the message where no box is made
abbrev pub unboxed_message : (message : List ℕ) → List ℕ
unboxed_message message = line_of (codes "tvdlg: ") (codes "box: " ++ message)

-- the message where the end that is asked for isn't reached
abbrev pub no_way_message : (path message : List ℕ) → List ℕ
no_way_message path message = line_of (codes "tvdlg: ") (path ++ codes ": " ++ message)

-- the message on standard error; that standard output failed is told below, where it is flushed
abbrev pub err_told : End → List ℕ
err_told ended = []
err_told (faulted Write path) = []
err_told (faulted fault path) = err_text path fault
err_told (unwritten path) = unwritten_message path
err_told (unboxed message) = unboxed_message message
err_told (wayless path message) = no_way_message path message

-- the message where standard output failed
abbrev pub cannot_write : List ℕ
cannot_write = err_text [] Write

-- the status, where standard output didn't fail
abbrev pub status_told : Done → End → ℕ
status_told Whole ended = 0
status_told Faulty ended = 1
status_told BrokenOff ended = 4
status_told done (faulted fault path) = status_of fault
status_told done (unwritten path) = 3
status_told done (unboxed message) = 1
status_told done (wayless path message) = 1

-- standard output took all that was to be told, and the status is that of the end; or it failed, which is
-- told too
pub data Tells (done : Done) (end : End) (out out_after err err_after : Seen) (status : ℕ) : Type 0 where
  written : (mid : Seen) → Takes out mid (out_told end) → IsWritten mid out_after
      → Offers err err_after (err_told end ∷ []) → status ≡ status_told done end
      → Tells done end out out_after err err_after status
  failed : (mid : Seen) → IsOffered out mid (out_told end) → Fails mid out_after
      → Offers err err_after (err_told end ∷ cannot_write ∷ []) → status ≡ 3
      → Tells done end out out_after err err_after status

-- the text of a usage fault, or help, was told; or it couldn't be
pub data TellsUsage (text : List ℕ) (err err_after : Seen) (status : ℕ) : Type 0 where
  written : (mid : Seen) → Takes err mid text → IsWritten mid err_after → status ≡ 2
      → TellsUsage text err err_after status
  failed : (mid : Seen) → IsOffered err mid text → Fails mid err_after → status ≡ 3
      → TellsUsage text err err_after status

-- the message where memory ran out before a task
abbrev pub no_memory : List ℕ
no_memory = err_text [] NoMemory

-- why there is no task is told on standard error, which is flushed
abbrev pub TellsNoTask : NoTask → (err err_after : Seen) → (status : ℕ) → Type 0
TellsNoTask no_tasks.NoMemory err err_after status =
    Offers err err_after (no_memory ∷ []) × (status ≡ 3)
TellsNoTask (no_tasks.Usage text) err err_after status =
    TellsUsage (string_bytes text) err err_after status
