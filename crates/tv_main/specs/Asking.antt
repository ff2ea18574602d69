-- What a command line asks for, as far as a proof knows.
use Rattle.std.specs.Prelude.{◌≡◌, [], string_bytes, Result, Ok, Err}
use Rattle.std.specs.declared.io.ErrorKind.{ErrorKind}
use Rattle.std.specs.declared.io.ErrorKind.TheVariants.{OutOfMemory}
use Rattle.tv_files.specs.declared.no_task.NoTask.{NoTask}
use Rattle.tv_files.specs.declared.no_task.NoTask.TheVariants.{NoMemory, Usage}
use Rattle.tv_files.specs.declared.task.Task.{Task}

-- what the words ask for, which is tested; where there are none, that is to be told
abbrev pub IsAskedBy : {W : Type 0} → Result W NoTask → Result Task NoTask → Type 0
IsAskedBy (Ok words) asked = Unit {0}
IsAskedBy (Err no_task) asked = asked ≡ Err no_task

-- a usage fault without a text
abbrev pub IsBareUsage : NoTask → Type 0
IsBareUsage NoMemory = ⊥
IsBareUsage (Usage text) = string_bytes text ≡ []

-- what is told of a command line whose words can't be had, by the kind of the system's error
abbrev pub TellsNoWords : ErrorKind → NoTask → Type 0
TellsNoWords OutOfMemory no_task = no_task ≡ NoMemory
TellsNoWords _ no_task = IsBareUsage no_task
