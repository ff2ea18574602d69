-- How the program ends.
use Rattle.std.specs.Prelude.{◌≡◌, ℕ, List, Result, Ok, Err}
use Rattle.tv_io.specs.Writer.{Seen}
use Rattle.tv_model.specs.declared.desc.Desc.{Desc}
use Rattle.tv_files.specs.declared.done.Done.{Done}
use Rattle.tv_files.specs.declared.no_task.NoTask.{NoTask}
use Rattle.tv_files.specs.declared.task.Task.{Task}
use Rattle.tv_files.specs.Ends.{End}
use Rattle.tv_files.specs.Performing.{PerformsTask}
use Rattle.tv_files.specs.Telling.{Tells, TellsNoTask}
use Rattle.tv_files.specs.World.{KnownWorld}

-- The task is performed on the files. Standard output takes what it writes, standard error the screen of what
-- is played, and the album the pictures of a script's shots; then its end is told, and both streams are
-- flushed. Where there is no task, only that is told, on standard error.
abbrev pub EndsWith : (Mismade : Desc → Type 0) → (IsTape : (path : List ℕ) (begun ended : Seen) → Type 0)
    → Result Task NoTask → (old new : KnownWorld) → (status : ℕ) → Type 0
EndsWith Mismade IsTape (Ok task) old new status =
    (done : Done) × (end : End) × (mid : KnownWorld)
    × PerformsTask Mismade IsTape task old mid done end
    × (new ≡ record mid { out = new.out; err = new.err })
    × Tells done end mid.out new.out mid.err new.err status
EndsWith Mismade IsTape (Err no_task) old new status =
    (new ≡ record old { err = new.err }) × TellsNoTask no_task old.err new.err status
