-- What the library tells of two files in memory.
use Rattle.std.specs.Prelude.{◌≡◌, ◌==◌, if◌then◌else◌, ℕ, true, false, List, [], Result, IsUtf8}
use Rattle.tv_files.specs.EndsWith.{EndsWith}
use Rattle.tv_files.specs.Files.{Known}
use Rattle.tv_files.specs.World.{KnownWorld}
use Rattle.tv_files.specs.declared.no_task.NoTask.{NoTask}
use Rattle.tv_files.specs.declared.task.Task.{Task}
use Rattle.tv_memory.specs.Closed.{album_of, input_of}
use Rattle.tv_memory.specs.Gathered.{IsShown, gathered}
use Rattle.tv_memory.specs.Words.{IsBareUsage}

-- the files, an album that takes no picture, an input at its end, and two streams to which nothing was written
abbrev pub begun : Known → KnownWorld
begun files = record {
  files = files;
  album = album_of 0;
  heard = input_of true 0 false;
  out = gathered [] 0;
  err = gathered [] 0;
}

-- the program's status, but that of a failure where messages were lost
abbrev pub answer_of : (failures status : ℕ) → ℕ
answer_of failures status = if failures == 0 then status else 3

-- What the words ask for, which is tested, is done over the files as the program does it, but that no script is recorded; words
-- that aren't UTF-8 ask for nothing. What was written is shown in the rooms
pub record Tells (words : List ℕ) (files : Known) (answer : ℕ) (out out_after : List ℕ) (out_used : ℕ)
    (err err_after : List ℕ) (err_used : ℕ) : Type 0 where
  pub asked : Result Task NoTask
  pub no_text : ¬ (IsUtf8 words) → IsBareUsage asked
  pub after : KnownWorld
  pub status : ℕ
  pub ends : EndsWith (λ _. ⊥) (λ _ _ _. ⊥) asked (begun files) after status
  pub answers : answer ≡ answer_of after.err.failures status
  pub written : IsShown after.out out out_after out_used
  pub told : IsShown after.err err err_after err_used
