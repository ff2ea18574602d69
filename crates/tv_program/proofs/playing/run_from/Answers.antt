use Rattle.std.proofs.Common.{refl}
use Rattle.tv_machine.specs.Run.{started}
use Rattle.tv_program.specs.Playing.{IsMismade, Makes}
use Rattle.tv_program.specs.Playing.RunsTo.{done}
use Rattle.tv_program.proofs.RunLemmas.{fits, stopped-RunsTo, unbegun-RunsTo}
use Rattle.tv_session.specs.Session.{StandsFor}
use Rattle.tv_program.proofs.playing.run_from.Goals as goal

pub perform_from-requires : goal.perform_from-requires
perform_from-requires g c =
    record { there = (started c.args.checked, c.in_ok-session.ensures.start, fits c.args.checked c.desc.result.now c.desc.ensures.value c.parts_are_lawful.ensures.screen.columns c.parts_are_lawful.ensures.screen.rows) }

pub returns-in_err-session : goal.returns-in_err-session
returns-in_err-session g c text read =
    unbegun-RunsTo (IsMismade (Makes g.F.Fn c.args.make.now) g.V.View.meaning) (StandsFor g.V.View.meaning) text (g.R.Reader.seen c.args.script.now) (g.W.Writer.seen c.args.out.now)
    c.args.checked read c.in_err-session.field-0.0 c.in_err-session.ensures.fault c.from_residual.result c.from_residual.ensures.1

pub returns-in_err-perform_from : goal.returns-in_err-perform_from
returns-in_err-perform_from g c text read =
    stopped-RunsTo (IsMismade (Makes g.F.Fn c.args.make.now) g.V.View.meaning) (StandsFor g.V.View.meaning) text (g.R.Reader.seen c.args.script.now) (g.W.Writer.seen c.args.out.now)
    c.args.checked read (g.R.Reader.seen c.perform_from.new.reader) (g.W.Writer.seen c.perform_from.new.out) (StandsFor g.V.View.meaning c.perform_from.new.stage) c.in_err-perform_from.field-0.0
    (c.in_err-perform_from.ensures _ c.in_ok-session.ensures.start) c.from_residual-in_err-perform_from.result c.from_residual-in_err-perform_from.ensures.1

pub returns : goal.returns
returns g c text read = done c.args.checked _ read (c.in_ok-perform_from.ensures _ c.in_ok-session.ensures.start) refl
