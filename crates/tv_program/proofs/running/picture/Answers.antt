use Rattle.std.proofs.Common.{refl}
use Rattle.tv_program.specs.Playing.{IsMismade, Makes}
use Rattle.tv_session.specs.Session.{StandsFor}
use Rattle.tv_program.proofs.DrawingLemmas.{cut-PicturesTo, drawn-PicturesTo, failed-PicturesTo}
use Rattle.tv_program.proofs.running.picture.Goals as goal

pub returns-in_err-session : goal.returns-in_err-session
returns-in_err-session g c =
    failed-PicturesTo (IsMismade (Makes g.F.Fn c.args.make.now) g.V.View.meaning) (StandsFor g.V.View.meaning) c.args.desc.now (g.R.Reader.seen c.args.script.now) (g.R.Reader.seen c.run.new.script) _ _
    (g.W.Writer.seen c.args.out.now) c.in_err-session.field-0.0 refl c.in_err-session.ensures.output c.from_residual.result c.from_residual.ensures.1

pub returns-in-Ok : goal.returns-in-Ok
returns-in-Ok g c =
    drawn-PicturesTo (IsMismade (Makes g.F.Fn c.args.make.now) g.V.View.meaning) (StandsFor g.V.View.meaning) c.args.desc.now (g.R.Reader.seen c.args.script.now) (g.R.Reader.seen c.run.new.script) _ _
    c.in_ok-session.session c.in_ok-session.ensures.output c.screen.result.now c.screen.ensures (g.W.Writer.seen c.args.out.now) (g.W.Writer.seen c.write_svg.new.out) c.in-Ok.ensures

pub returns : goal.returns
returns g c =
    cut-PicturesTo (IsMismade (Makes g.F.Fn c.args.make.now) g.V.View.meaning) (StandsFor g.V.View.meaning) c.args.desc.now (g.R.Reader.seen c.args.script.now) (g.R.Reader.seen c.run.new.script) _ _
    c.in_ok-session.session c.in_ok-session.ensures.output c.screen.result.now c.screen.ensures (g.W.Writer.seen c.args.out.now) (g.W.Writer.seen c.write_svg.new.out) c.in-Err.ensures
