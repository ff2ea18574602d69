use Rattle.std.proofs.Common.{Ok, Err, refl}
use Rattle.tv_program.specs.Playing.{IsMismade, Makes}
use Rattle.tv_files.specs.Ends.{end_of}
use Rattle.tv_files.specs.Picturing.{PicturesAs}
use Rattle.tv_files.proofs.TaskLemmas.{done-OnStream}
use Rattle.tv_files.proofs.picturing.picture_file.Goals as goal

pub returns-in-Ok : goal.returns-in-Ok
returns-in-Ok g c =
    let old = g.W.Writer.seen c.args.out.now in
    let new = g.W.Writer.seen c.picture.new.out in
    let end = end_of {T = Unit {0}} (Ok tt) in
    let first = c.in_ok-description.ensures in
    let second = c.in_ok-events.ensures in
    done-OnStream (PicturesAs (IsMismade (Makes g.M.Fn c.args.views.now) g.V.View.meaning) c.args.paths.file.now c.args.paths.script.now old new end)
    (g.F.FileStore.known c.args.files.now) (g.F.FileStore.known c.open.new.files) (g.F.FileStore.known c.open-2.new.files) c.args.paths.file.now c.args.paths.script.now old new end
    (g.F.File.Reader.seen c.in_ok-description.description) (g.F.File.Reader.seen c.read.new.file) (g.F.File.Reader.seen c.in_ok-events.events) (g.F.File.Reader.seen c.picture.new.script)
    c.in_ok-text.text.items first.0 first.1 second.0 second.1 c.in_ok-text.ensures
    (Ok tt, rw c.as_slice.ensures.value at c.in-Ok.ensures, refl)

pub returns : goal.returns
returns g c =
    let old = g.W.Writer.seen c.args.out.now in
    let new = g.W.Writer.seen c.picture.new.out in
    let end = end_of {T = Unit {0}} (Err c.of_run.result) in
    let first = c.in_ok-description.ensures in
    let second = c.in_ok-events.ensures in
    done-OnStream (PicturesAs (IsMismade (Makes g.M.Fn c.args.views.now) g.V.View.meaning) c.args.paths.file.now c.args.paths.script.now old new end)
    (g.F.FileStore.known c.args.files.now) (g.F.FileStore.known c.open.new.files) (g.F.FileStore.known c.open-2.new.files) c.args.paths.file.now c.args.paths.script.now old new end
    (g.F.File.Reader.seen c.in_ok-description.description) (g.F.File.Reader.seen c.read.new.file) (g.F.File.Reader.seen c.in_ok-events.events) (g.F.File.Reader.seen c.picture.new.script)
    c.in_ok-text.text.items first.0 first.1 second.0 second.1 c.in_ok-text.ensures (
      Err c.in-Err.fault,
      rw c.as_slice.ensures.value at c.in-Err.ensures,
      c.of_run.ensures,
    )
