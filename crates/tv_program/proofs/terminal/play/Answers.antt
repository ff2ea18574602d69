use Rattle.tv_program.specs.Playing.{IsMismade, Makes}
use Rattle.tv_program.proofs.PlayLemmas.{refused-PlaysText}
use Rattle.tv_play.specs.Outputs.{ports_with}
use Rattle.tv_program.proofs.RunLemmas.{lawful}
use Rattle.tv_program.proofs.TapeLemmas.{tapes-again}
use Rattle.tv_program.proofs.terminal.play.Goals as goal

pub returns-in_err-checked-clause-output : goal.returns-in_err-checked-clause-output
returns-in_err-checked-clause-output g c =
    refused-PlaysText (IsMismade (Makes g.F.Fn c.args.make.now) g.V.View.meaning) c.args.outputs.now.colours c.args.desc.now (ports_with g.T.Writer.seen g.W.Writer.seen g.R.Writer.seen (g.P.Pieces.heard c.args.pieces.now) c.args.outputs.now)
    c.in_err-checked.field-0.0 c.in_err-checked.ensures.fault c.from_residual.result c.from_residual.ensures.1

pub returns-in_err-checked-clause-taped : goal.returns-in_err-checked-clause-taped
returns-in_err-checked-clause-taped g c = tapes-again c.args.desc.now

pub returns-clause-taped : goal.returns-clause-taped
returns-clause-taped g c = tapes-again c.args.desc.now

pub returns-in_err-checked-clause-laws : goal.returns-in_err-checked-clause-laws
returns-in_err-checked-clause-laws g c = lawful c.args.desc.now

pub returns-clause-output : goal.returns-clause-output
returns-clause-output g c = c.play_from.ensures.output c.args.desc.now c.in_ok-checked.ensures.sound

pub returns-clause-laws : goal.returns-clause-laws
returns-clause-laws g c = lawful c.args.desc.now
