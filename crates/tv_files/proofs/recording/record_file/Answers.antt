use Rattle.std.proofs.Common.{Ok, Err, ap, refl, rules}
use Rattle.tv_program.specs.Playing.{IsMismade, Makes}
use Rattle.tv_files.specs.Files.{IsTapeOf}
use Rattle.tv_files.specs.Recording.RecordsFile.{played, refused, unmade}
use Rattle.tv_files.specs.World.{known_world, ports_of}
use Rattle.tv_files.proofs.RecordLemmas.{unread-RecordsFile}
use Rattle.tv_files.proofs.TaskLemmas.{PlaysText-lent}
use Rattle.tv_files.proofs.recording.record_file.Goals as goal

pub returns-in_err-text : goal.returns-in_err-text
returns-in_err-text g c = (
  refl,
  unread-RecordsFile (IsMismade (Makes g.M.Fn c.args.views.now) g.V.View.meaning) (IsTapeOf g.F.Made.Writer.seen g.F.FileStore.made_at) c.args.colours (g.F.FileStore.known c.args.world.now.files) (g.F.FileStore.known c.read_file.new.files) c.args.paths.file.now c.args.paths.script.now
      (ports_of (known_world g.F.FileStore.known g.A.Album.hung g.P.Pieces.heard g.W.Writer.seen g.T.Writer.seen c.args.world.now))
      c.in_err-text.field-0.0 c.in_err-text.ensures c.from_residual.result c.from_residual.ensures.1,
)

pub returns-in-Err : goal.returns-in-Err
returns-in-Err g c = (
  refl,
  refused c.in_ok-text.text.items c.in-Err.fault c.in_ok-text.ensures (rw c.as_slice.ensures.value at c.in-Err.ensures.fault) refl refl c.of_run.ensures,
)

pub returns-in-Err-make : goal.returns-in-Err-make
returns-in-Err-make g c = (
  refl,
  unmade c.in_ok-text.text.items c.in-Ok.checked c.in-Err-make.fault _ c.in_ok-text.ensures (rw c.as_slice.ensures.value at c.in-Ok.ensures.sound) c.in-Err-make.ensures refl refl c.of_tape.ensures,
)

pub returns-in-Ok-play_from : goal.returns-in-Ok-play_from
returns-in-Ok-play_from g c =
    let same = c.play_from.ensures.same in (
      refl,
      played c.in_ok-text.text.items c.in-Ok.checked _ _ (Ok c.in-Ok-play_from.parting) _ c.in_ok-text.ensures (rw c.as_slice.ensures.value at c.in-Ok.ensures.sound) c.in-Ok-make.ensures.0 (_, _, c.in-Ok-make.ensures.1, refl, refl)
          (PlaysText-lent _ _ _ _ _ _ _ _ _ _ _ (ap g.W.Writer.seen (search (rules, same.log))) (ap g.T.Writer.seen (search (rules, same.screen))) refl
          (c.in-Ok-play_from.ensures.output c.in_ok-text.text.items (rw c.as_slice.ensures.value at c.in-Ok.ensures.sound)))
          c.from.ensures refl,
    )

pub returns : goal.returns
returns g c =
    let same = c.play_from.ensures.same in (
      refl,
      played c.in_ok-text.text.items c.in-Ok.checked _ _ (Err c.in-Err-play_from.fault) _ c.in_ok-text.ensures (rw c.as_slice.ensures.value at c.in-Ok.ensures.sound) c.in-Ok-make.ensures.0 (_, _, c.in-Ok-make.ensures.1, refl, refl)
          (PlaysText-lent _ _ _ _ _ _ _ _ _ _ _ (ap g.W.Writer.seen (search (rules, same.log))) (ap g.T.Writer.seen (search (rules, same.screen))) refl
          (c.in-Err-play_from.ensures.output c.in_ok-text.text.items (rw c.as_slice.ensures.value at c.in-Ok.ensures.sound)))
          refl c.of_record.ensures,
    )
