use Rattle.std.proofs.Common.{Ok, Err, ap, refl, rules}
use Rattle.tv_program.specs.Playing.{IsMismade, Makes}
use Rattle.tv_files.specs.Tasks.PlaysFile.{played}
use Rattle.tv_files.specs.World.{known_world, ports_of}
use Rattle.tv_files.proofs.TaskLemmas.{PlaysText-lent, unread-PlaysFile}
use Rattle.tv_files.proofs.tasks.play_file.Goals as goal

pub returns-in_err-text : goal.returns-in_err-text
returns-in_err-text g c = (
  refl,
  unread-PlaysFile (IsMismade (Makes g.M.Fn c.args.views.now) g.V.View.meaning) c.args.colours (g.F.FileStore.known c.args.world.now.files) (g.F.FileStore.known c.read_file.new.files) c.args.file.now
      (ports_of (known_world g.F.FileStore.known g.A.Album.hung g.P.Pieces.heard g.W.Writer.seen g.T.Writer.seen c.args.world.now))
      c.in_err-text.field-0.0 c.in_err-text.ensures c.from_residual.result c.from_residual.ensures.1,
)

pub returns-in-Ok : goal.returns-in-Ok
returns-in-Ok g c =
    let same = c.play.ensures.same in (
      refl,
      played c.in_ok-text.text.items c.in_ok-text.ensures (
        Ok c.in-Ok.parting,
        PlaysText-lent _ _ _ _ _ _ _ _ _ _ _ (ap g.W.Writer.seen (search (rules, same.log))) (ap g.T.Writer.seen (search (rules, same.screen))) refl (rw c.as_slice.ensures.value at c.in-Ok.ensures.output),
        c.from.ensures,
        refl,
      ),
    )

pub returns : goal.returns
returns g c =
    let same = c.play.ensures.same in (
      refl,
      played c.in_ok-text.text.items c.in_ok-text.ensures (
        Err c.in-Err.fault,
        PlaysText-lent _ _ _ _ _ _ _ _ _ _ _ (ap g.W.Writer.seen (search (rules, same.log))) (ap g.T.Writer.seen (search (rules, same.screen))) refl (rw c.as_slice.ensures.value at c.in-Err.ensures.output),
        refl,
        c.of_run.ensures,
      ),
    )
