-- What every task comes to.
use Rattle.std.specs.Prelude.{◌≡◌, ℕ, List, map, string_bytes}
use Rattle.tv_io.specs.Writer.{Seen}
use Rattle.tv_model.specs.declared.desc.Desc.{Desc}
use Rattle.tv_files.specs.declared.done.Done.{Done}
use Rattle.tv_files.specs.declared.done.Done.TheVariants.{Whole}
use Rattle.tv_files.specs.declared.task.Task.{Task}
use Rattle.tv_files.specs.declared.task.Task.TheVariants.{Check, Accept, Run, Play, Picture, PictureAll}
use Rattle.tv_files.specs.declared.task.Task.TheVariants.{Fill, Answer, Box, Explain, ExplainBoth, Record, Version, Warn, Way, Ways}
use Rattle.tv_files.specs.Boxes.{WritesBox}
use Rattle.tv_files.specs.Ends.{End}
use Rattle.tv_files.specs.Explaining.{ExplainsFile, ExplainsFiles}
use Rattle.tv_files.specs.Filling.{AnswersFiles, FillsFiles}
use Rattle.tv_files.specs.Picturing.{PicturesAll, PicturesFiles}
use Rattle.tv_files.specs.Recording.{RecordsIn}
use Rattle.tv_files.specs.Tasks.{AcceptsFiles, ChecksFile, PlaysFile, RunsFiles, TellsVersion}
use Rattle.tv_files.specs.Warning.{WarnsFile}
use Rattle.tv_files.specs.Way.{WayFile}
use Rattle.tv_files.specs.Ways.{WaysFile}
use Rattle.tv_files.specs.World.{KnownWorld, ports_of, written_of}
use Rattle.tv_terminal.specs.declared.colour.Colours.{Colours}

-- nothing is heard, no screen is shown, and no picture is drawn
abbrev pub IsQuiet : (old new : KnownWorld) → Type 0
IsQuiet old new = new ≡ record old { files = new.files; out = new.out }

-- a description is played, and no picture is drawn
abbrev pub PlaysIn : (Mismade : Desc → Type 0) → Colours → (file : List ℕ) → (old new : KnownWorld) → Done
    → End → Type 0
PlaysIn Mismade colours file old new how end =
    (new.album ≡ old.album)
    × PlaysFile Mismade colours old.files new.files file (ports_of old) (ports_of new) how end

-- both streams are written, nothing is heard, and no picture is drawn
abbrev pub IsUnplayed : (old new : KnownWorld) → Type 0
IsUnplayed old new = new ≡ record old { files = new.files; out = new.out; err = new.err }

-- a task, by what is asked for. Into the file of a script goes what `IsTape` says
abbrev pub PerformsTask : (Mismade : Desc → Type 0) → (IsTape : (path : List ℕ) (begun ended : Seen) → Type 0) → Task
    → (old new : KnownWorld) → Done → End → Type 0
PerformsTask Mismade IsTape (Check file) old new how end =
    IsQuiet old new × (how ≡ Whole) × ChecksFile old.files new.files file.now old.out new.out end
PerformsTask Mismade IsTape (Accept file certificate) old new how end =
    IsQuiet old new × (how ≡ Whole)
    × AcceptsFiles old.files new.files file.now certificate.now old.out new.out end
PerformsTask Mismade IsTape (Run file script) old new how end =
    IsQuiet old new × (how ≡ Whole)
    × RunsFiles Mismade old.files new.files file.now script.now old.out new.out end
PerformsTask Mismade IsTape (Play file colours) old new how end = PlaysIn Mismade colours file.now old new how end
PerformsTask Mismade IsTape (Record file script colours) old new how end =
    RecordsIn Mismade IsTape colours file.now script.now old new how end
PerformsTask Mismade IsTape (Picture file script) old new how end =
    IsQuiet old new × (how ≡ Whole)
    × PicturesFiles Mismade old.files new.files file.now script.now old.out new.out end
PerformsTask Mismade IsTape (PictureAll file script) old new how end =
    (new ≡ record old { files = new.files; album = new.album }) × (how ≡ Whole)
    × PicturesAll Mismade old.files new.files file.now script.now old.album new.album end
PerformsTask Mismade IsTape (Fill file answers) old new how end =
    IsUnplayed old new × (how ≡ Whole)
    × FillsFiles old.files new.files file.now answers.now (written_of old) (written_of new) end
PerformsTask Mismade IsTape (Answer file answers) old new how end =
    IsUnplayed old new × (how ≡ Whole)
    × AnswersFiles Mismade old.files new.files file.now answers.now (written_of old) (written_of new) end
PerformsTask Mismade IsTape (Box words) old new how end =
    (new ≡ record old { out = new.out }) × (how ≡ Whole) × WritesBox (map string_bytes words.now) old.out new.out end
PerformsTask Mismade IsTape (Explain file manner) old new how end =
    IsQuiet old new × ExplainsFile manner old.files new.files file.now old.out new.out how end
PerformsTask Mismade IsTape (ExplainBoth file beside manner) old new how end =
    IsQuiet old new
    × ExplainsFiles manner old.files new.files file.now beside.now old.out new.out how end
PerformsTask Mismade IsTape (Ways file) old new how end =
    IsQuiet old new × WaysFile old.files new.files file.now old.out new.out how end
PerformsTask Mismade IsTape (Way file wanted) old new how end =
    IsQuiet old new
    × WayFile old.files new.files file.now wanted.dialog.now wanted.end old.out new.out how end
PerformsTask Mismade IsTape (Warn file manner denies) old new how end =
    IsQuiet old new × WarnsFile manner denies old.files new.files file.now old.out new.out how end
PerformsTask Mismade IsTape Version old new how end =
    (new ≡ record old { out = new.out }) × (how ≡ Whole) × TellsVersion old.out new.out end
