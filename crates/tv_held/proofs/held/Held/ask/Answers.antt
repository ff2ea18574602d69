use Rattle.std.proofs.Common.{refl, subst, sym}
use Rattle.tv_held.specs.Acting.{Follows, LineActs}
use Rattle.tv_held.specs.declared.answer.Told.{Told}
use Rattle.tv_held.proofs.held.Held.ask.Goals as goal

pub returns-in-Line : goal.returns-in-Line
returns-in-Line c = λ h held.
    let d = c.line.ensures h held in
    (d.0, d.1, rw c.in-Line.is (subst (λ (t : Told). Follows (LineActs c.args.input.now) h d.0 t) (sym c.bare-in-Line.ensures) d.2, refl))

pub returns-in-Command : goal.returns-in-Command
returns-in-Command c = λ h held. let d = c.command_in.ensures h held in (d.0, d.1, rw c.in-Command.is (d.2, refl))
