-- What the program's end says where less is said of views that are refused.
use Rattle.std.proofs.Common.{ℕ, List, Option, Result, Ok, Err, inl, inr}
use Rattle.tv_io.specs.Reader.{Given}
use Rattle.tv_io.specs.Writer.{Seen}
use Rattle.tv_machine.specs.Run.{Session}
use Rattle.tv_model.specs.declared.desc.Desc.{Desc}
use Rattle.tv_play.specs.Playing.{Ports}
use Rattle.tv_play.specs.declared.parting.Parting.{Parting}
use Rattle.tv_program.specs.Albums.{Hung}
use Rattle.tv_program.specs.Answering.{AnswersTo, IsUnrun, RefusesRun}
use Rattle.tv_program.specs.declared.answer_fault.AnswerFault.{AnswerFault}
use Rattle.tv_program.specs.declared.answer_fault.AnswerFault.TheVariants as answered
use Rattle.tv_program.specs.Filling.{Written}
use Rattle.tv_program.specs.Drawing.{PicturesTo}
use Rattle.tv_program.specs.Drawing.PicturesTo.{unrun, drawn, cut}
use Rattle.tv_program.specs.Shots.{ShotsTo}
use Rattle.tv_program.specs.Shots.ShotsTo.{refused as refused_shots, unbegun as unbegun_shots, drawn as drawn_shots}
use Rattle.tv_program.specs.declared.picture_fault.DrawingFault.{DrawingFault}
use Rattle.tv_program.specs.declared.run_fault.RunFault.{RunFault}
use Rattle.tv_program.specs.declared.run_fault.RunFault.TheVariants as runs
use Rattle.tv_program.specs.Playing.{IsNoStart, RunsTo}
use Rattle.tv_program.specs.Playing.RunsTo.{refused, unbegun, stopped, done as done_run}
use Rattle.tv_program.specs.Reading.{IsSoundText}
use Rattle.tv_program.specs.Terminal.{PlaysText}
use Rattle.tv_terminal.specs.declared.colour.Colours.{Colours}
use Rattle.tv_program.specs.Terminal.PlaysText.{refused as refused_play, unbegun as unbegun_play, played as played_text}
use Rattle.tv_files.specs.declared.done.Done.{Done}
use Rattle.tv_files.specs.declared.no_task.NoTask.{NoTask}
use Rattle.tv_files.specs.declared.task.Task.{Task}
use Rattle.tv_files.specs.declared.task.Task.TheVariants.{Check, Accept, Run, Play, Record, Picture, PictureAll, Fill, Answer, Box, Explain, ExplainBoth, Version, Warn, Way, Ways}
use Rattle.tv_files.specs.Ends.{End}
use Rattle.tv_files.specs.EndsWith.{EndsWith}
use Rattle.tv_files.specs.Files.{Known}
use Rattle.tv_files.specs.Performing.{PerformsTask}
use Rattle.tv_files.specs.Picturing.{PicturesAll, PicturesAs, PicturesFiles, ShotsAs}
use Rattle.tv_files.specs.Filling.{AnswersFiles}
use Rattle.tv_files.specs.Recording.{RecordsFile, with_tape}
use Rattle.tv_files.specs.Recording.RecordsFile.{unread as unread_record, refused as refused_record, unmade as unmade_record, played as played_record}
use Rattle.tv_files.specs.Tasks.{OnStream, PlaysFile, RunsAs, RunsFiles}
use Rattle.tv_files.specs.Tasks.OnFiles.{first as first_file, unread as unread_beside, done as done_beside}
use Rattle.tv_files.specs.Tasks.OnStream.{unopened, beside, unread, done}
use Rattle.tv_files.specs.Tasks.PlaysFile.{unread as unread_file, played as played_file}
use Rattle.tv_files.specs.World.{KnownWorld, ports_of, written_of}

-- what two files come to, where less is said of what follows
OnStream-weaker : {S : Type 0} (Comes Weaker : (text : List ℕ) (reader left : Given) → Type 0) → ((text : List ℕ) (reader left : Given) → Comes text reader left → Weaker text reader left) → (files after : Known) (file script : List ℕ) (old new : S) (end : End) → OnStream Comes files after file script old new end → OnStream Weaker files after file script old new end
OnStream-weaker Comes Weaker weaker files after file script old new end (unopened is same) = unopened is same
OnStream-weaker Comes Weaker weaker files after file script old new end (beside is same) = beside is same
OnStream-weaker Comes Weaker weaker files after file script old new end (unread is same) = unread is same
OnStream-weaker Comes Weaker weaker files after file script old new end (done text reader left gives is came) = done text reader left gives is (weaker text reader left came)

module _ (P Q : Desc → Type 0) (weaker : (text : List ℕ) (d : Desc) → IsSoundText text d → P d → Q d) where
  -- why no run was begun
  IsNoStart-weaker : (text : List ℕ) (d : Desc) (fault : RunFault) → IsSoundText text d → IsNoStart P d fault → IsNoStart Q d fault
  IsNoStart-weaker text d runs.NoMemory sound why = tt
  IsNoStart-weaker text d runs.View sound why = weaker text d sound why
  IsNoStart-weaker text d (runs.Lang fault) sound why = absurd why
  IsNoStart-weaker text d (runs.Faults list) sound why = absurd why
  IsNoStart-weaker text d (runs.Script fault) sound why = absurd why
  IsNoStart-weaker text d runs.Read sound why = absurd why
  IsNoStart-weaker text d runs.Write sound why = absurd why
  IsNoStart-weaker text d runs.Tape sound why = absurd why

  -- what a run comes to
  RunsTo-weaker : {T : Type 0} (Stands : T → Session → Type 0) (text : List ℕ) (reader left : Given) (old new : Seen) (r : Result T RunFault) → RunsTo P Stands text reader left old new r → RunsTo Q Stands text reader left old new r
  RunsTo-weaker Stands text reader left old new r (refused fault is untouched told) = refused fault is untouched told
  RunsTo-weaker Stands text reader left old new r (unbegun d fault read why untouched told) =
      unbegun d fault read (IsNoStart-weaker text d fault read why) untouched told
  RunsTo-weaker Stands text reader left old new r (stopped d fault read comes told) = stopped d fault read comes told
  RunsTo-weaker Stands text reader left old new r (done_run d run read comes told) = done_run d run read comes told

  -- what running two files comes to
  RunsFiles-weaker : (files after : Known) (file script : List ℕ) (old new : Seen) (end : End) → RunsFiles P files after file script old new end → RunsFiles Q files after file script old new end
  RunsFiles-weaker files after file script old new end came =
      OnStream-weaker (RunsAs P file script old new end) (RunsAs Q file script old new end)
      (λ text reader left was. (was.0, RunsTo-weaker _ text reader left old new was.0 was.1, was.2)) files after file script old new end came

  -- what drawing a run comes to
  PicturesTo-weaker : (text : List ℕ) (reader left : Given) (old new : Seen) (r : Result (Unit {0}) RunFault) → PicturesTo P text reader left old new r → PicturesTo Q text reader left old new r
  PicturesTo-weaker text reader left old new r (unrun fault log later other ran same told) =
      unrun fault log later other (RunsTo-weaker _ text reader left log later (Err fault) ran) same told
  PicturesTo-weaker text reader left old new r (drawn d script read gives took told) = drawn d script read gives took told
  PicturesTo-weaker text reader left old new r (cut d script read gives took told) = cut d script read gives took told

  -- what drawing two files comes to
  PicturesFiles-weaker : (files after : Known) (file script : List ℕ) (old new : Seen) (end : End) → PicturesFiles P files after file script old new end → PicturesFiles Q files after file script old new end
  PicturesFiles-weaker files after file script old new end came =
      OnStream-weaker (PicturesAs P file script old new end) (PicturesAs Q file script old new end)
      (λ text reader left was. (was.0, PicturesTo-weaker text reader left old new was.0 was.1, was.2)) files after file script old new end came

  -- what drawing each shot comes to
  ShotsTo-weaker : (text name : List ℕ) (reader left : Given) (old new : Option Hung) (r : Result (Unit {0}) DrawingFault) → ShotsTo P text name reader left old new r → ShotsTo Q text name reader left old new r
  ShotsTo-weaker text name reader left old new r (refused_shots fault is untouched told) = refused_shots fault is untouched told
  ShotsTo-weaker text name reader left old new r (unbegun_shots d fault read why untouched told) =
      unbegun_shots d fault read (IsNoStart-weaker text d fault read why) untouched told
  ShotsTo-weaker text name reader left old new r (drawn_shots d read draws) = drawn_shots d read draws

  PicturesAll-weaker : (files after : Known) (file script : List ℕ) (old new : Option Hung) (end : End) → PicturesAll P files after file script old new end → PicturesAll Q files after file script old new end
  PicturesAll-weaker files after file script old new end came =
      OnStream-weaker (ShotsAs P file script old new end) (ShotsAs Q file script old new end)
      (λ text reader left was. (was.0, ShotsTo-weaker text script reader left old new was.0 was.1, was.2)) files after file script old new end came

  -- what playing a description comes to
  PlaysText-weaker : {colours : Colours} (text : List ℕ) (old new : Ports) (r : Result Parting RunFault) → PlaysText P colours text old new r → PlaysText Q colours text old new r
  PlaysText-weaker text old new r (refused_play fault is untouched told) = refused_play fault is untouched told
  PlaysText-weaker text old new r (unbegun_play d fault read why untouched told) =
      unbegun_play d fault read (IsNoStart-weaker text d fault read why) untouched told
  PlaysText-weaker text old new r (played_text d outcome read plays told) = played_text d outcome read plays told

  -- what playing a file comes to
  PlaysFile-weaker : {colours : Colours} (files after : Known) (file : List ℕ) (old new : Ports) (how : Done) (end : End) → PlaysFile P colours files after file old new how end → PlaysFile Q colours files after file old new how end
  PlaysFile-weaker files after file old new how end (unread_file is same whole) = unread_file is same whole
  PlaysFile-weaker files after file old new how end (played_file text gives came) =
      played_file text gives (came.0, PlaysText-weaker text old new came.0 came.1, came.2, came.3)

  RecordsFile-weaker : {T U : (path : List ℕ) (begun ended : Seen) → Type 0} → ((path : List ℕ) (begun ended : Seen) → T path begun ended → U path begun ended) → {colours : Colours} (files after : Known) (file script : List ℕ) (old new : Ports) (how : Done) (end : End) → RecordsFile P T colours files after file script old new how end → RecordsFile Q U colours files after file script old new how end
  RecordsFile-weaker tapes files after file script old new how end (unread_record is same whole) = unread_record is same whole
  RecordsFile-weaker tapes files after file script old new how end (refused_record text fault gives refuses same whole told) = refused_record text fault gives refuses same whole told
  RecordsFile-weaker tapes files after file script old new how end (unmade_record text d fault read gives sound makes same whole told) = unmade_record text d fault read gives sound makes same whole told
  RecordsFile-weaker tapes files after file script old new how end (played_record text d begun ended r read gives sound makes tape came same told) =
      played_record text d begun ended r read gives sound makes (tapes script begun ended tape) (PlaysText-weaker text (with_tape old begun) (with_tape new ended) r came) same told

  -- why a text isn't run
  RefusesRun-weaker : (text : List ℕ) (fault : RunFault) → RefusesRun P text fault → RefusesRun Q text fault
  RefusesRun-weaker text fault (inl undescribed) = inl undescribed
  RefusesRun-weaker text fault (inr was) = inr (was.0, was.1, IsNoStart-weaker text was.0 fault was.1 was.2)

  -- why no runs were begun
  IsUnrun-weaker : (d : Desc) (written : List ℕ) (fault : RunFault) → IsUnrun P d written fault → IsUnrun Q d written fault
  IsUnrun-weaker d written runs.NoMemory was = tt
  IsUnrun-weaker d written runs.View was = (was.0, was.1, (was.2.0, was.2.1, RefusesRun-weaker _ runs.View was.2.2))
  IsUnrun-weaker d written (runs.Lang fault) was = (was.0, was.1, (was.2.0, was.2.1, RefusesRun-weaker _ (runs.Lang fault) was.2.2))
  IsUnrun-weaker d written (runs.Faults list) was = (was.0, was.1, (was.2.0, was.2.1, RefusesRun-weaker _ (runs.Faults list) was.2.2))
  IsUnrun-weaker d written (runs.Script fault) was = (was.0, was.1, (was.2.0, was.2.1, RefusesRun-weaker _ (runs.Script fault) was.2.2))
  IsUnrun-weaker d written runs.Read was = (was.0, was.1, (was.2.0, was.2.1, RefusesRun-weaker _ runs.Read was.2.2))
  IsUnrun-weaker d written runs.Write was = (was.0, was.1, (was.2.0, was.2.1, RefusesRun-weaker _ runs.Write was.2.2))
  IsUnrun-weaker d written runs.Tape was = (was.0, was.1, (was.2.0, was.2.1, RefusesRun-weaker _ runs.Tape was.2.2))

  -- what giving dialogs their ends comes to
  AnswersTo-weaker : (name : List ℕ) (d : Desc) (written : List ℕ) (old new : Written) (r : Result (Unit {0}) AnswerFault) → AnswersTo P name d written old new r → AnswersTo Q name d written old new r
  AnswersTo-weaker name d written old new (Ok x) was = was
  AnswersTo-weaker name d written old new (Err (answered.Run fault)) was = (IsUnrun-weaker d written fault was.0, was.1)
  AnswersTo-weaker name d written old new (Err (answered.Answers fault)) was = was
  AnswersTo-weaker name d written old new (Err answered.Misfits) was = was
  AnswersTo-weaker name d written old new (Err answered.NoAnswers) was = was
  AnswersTo-weaker name d written old new (Err (answered.Disabled ending)) was = was
  AnswersTo-weaker name d written old new (Err (answered.Refused ending)) was = was
  AnswersTo-weaker name d written old new (Err answered.Write) was = was

  -- the same of two files
  AnswersFiles-weaker : (files after : Known) (file answers : List ℕ) (old new : Written) (end : End) → AnswersFiles P files after file answers old new end → AnswersFiles Q files after file answers old new end
  AnswersFiles-weaker files after file answers old new end (first_file ends same) = first_file ends same
  AnswersFiles-weaker files after file answers old new end (unread_beside text is passed why same) = unread_beside text is passed why same
  AnswersFiles-weaker files after file answers old new end (done_beside text written is passed gives was) =
      done_beside text written is passed gives (was.0, was.1, was.2, AnswersTo-weaker answers was.0 written old new was.1 was.3, was.4)

  -- what a task comes to
  Performs-weaker : {T U : (path : List ℕ) (begun ended : Seen) → Type 0} → ((path : List ℕ) (begun ended : Seen) → T path begun ended → U path begun ended) → (task : Task) (old new : KnownWorld) (how : Done) (end : End) → PerformsTask P T task old new how end → PerformsTask Q U task old new how end
  Performs-weaker tapes (Check file) old new how end came = came
  Performs-weaker tapes (Accept file certificate) old new how end came = came
  Performs-weaker tapes (Run file script) old new how end came =
      (came.0, came.1, RunsFiles-weaker old.files new.files file.now script.now old.out new.out end came.2)
  Performs-weaker tapes (Play file colours) old new how end came =
      (came.0, PlaysFile-weaker old.files new.files file.now (ports_of old) (ports_of new) how end came.1)
  Performs-weaker tapes (Record file script colours) old new how end came =
      (came.0, RecordsFile-weaker tapes old.files new.files file.now script.now (ports_of old) (ports_of new) how end came.1)
  Performs-weaker tapes (Picture file script) old new how end came =
      (came.0, came.1, PicturesFiles-weaker old.files new.files file.now script.now old.out new.out end came.2)
  Performs-weaker tapes (PictureAll file script) old new how end came =
      (came.0, came.1, PicturesAll-weaker old.files new.files file.now script.now old.album new.album end came.2)
  Performs-weaker tapes (Fill file answers) old new how end came = came
  Performs-weaker tapes (Answer file answers) old new how end came =
      (came.0, came.1, AnswersFiles-weaker old.files new.files file.now answers.now (written_of old) (written_of new) end came.2)
  Performs-weaker tapes (Box words) old new how end came = came
  Performs-weaker tapes (Explain file manner) old new how end came = came
  Performs-weaker tapes (ExplainBoth file other manner) old new how end came = came
  Performs-weaker tapes (Ways file) old new how end came = came
  Performs-weaker tapes (Way file wanted) old new how end came = came
  Performs-weaker tapes (Warn file manner denies) old new how end came = came
  Performs-weaker tapes Version old new how end came = came

  -- how the program ends
  pub EndsWith-weaker : {T U : (path : List ℕ) (begun ended : Seen) → Type 0} → ((path : List ℕ) (begun ended : Seen) → T path begun ended → U path begun ended) → (asked : Result Task NoTask) (old new : KnownWorld) (status : ℕ) → EndsWith P T asked old new status → EndsWith Q U asked old new status
  EndsWith-weaker tapes (Ok task) old new status ends =
      (ends.0, ends.1, ends.2, Performs-weaker tapes task old ends.2 ends.0 ends.1 ends.3, ends.4, ends.5)
  EndsWith-weaker tapes (Err no_task) old new status ends = ends
