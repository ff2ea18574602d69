use Rattle.tv_machine.specs.Run.{started}
use Rattle.tv_program.specs.Playing.{IsMismade, Makes}
use Rattle.tv_program.proofs.ShotLemmas.{refused-ShotsTo, unbegun-ShotsTo}
use Rattle.tv_program.specs.Shots.ShotsTo.{drawn}
use Rattle.tv_program.proofs.shots.picture_shots.Goals as goal

pub returns-in_err-checked : goal.returns-in_err-checked
returns-in_err-checked g c =
    refused-ShotsTo (IsMismade (Makes g.F.Fn c.args.make.now) g.V.View.meaning) c.args.desc.now c.args.name.now (g.R.Reader.seen c.args.script.now) (g.A.Album.hung c.args.album.now)
    c.in_err-checked.field-0.0 c.in_err-checked.ensures.fault c.from_residual.result c.from_residual.ensures.1

pub returns-in_err-session : goal.returns-in_err-session
returns-in_err-session g c =
    unbegun-ShotsTo (IsMismade (Makes g.F.Fn c.args.make.now) g.V.View.meaning) c.args.desc.now c.args.name.now (g.R.Reader.seen c.args.script.now) (g.A.Album.hung c.args.album.now)
    c.in_ok-checked.checked c.in_ok-checked.ensures.sound c.in_err-session.field-0.0 c.in_err-session.ensures.fault c.from_residual-in_err-session.result c.from_residual-in_err-session.ensures.1

pub returns : goal.returns
returns g c = drawn c.in_ok-checked.checked c.in_ok-checked.ensures.sound (c.draw_script.ensures (started c.in_ok-checked.checked) c.in_ok-session.ensures.start)
