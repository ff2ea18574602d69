use Rattle.std.proofs.Common.{get_or, refl, subst, sym}
use Rattle.tv_event.specs.declared.event.Command.{Command}
use Rattle.tv_held.proofs.HeldLemmas.{commands-in}
use Rattle.tv_held.specs.Acting.{CommandActs, Follows}
use Rattle.tv_held.specs.declared.answer.Told.{Told}
use Rattle.tv_held.proofs.held.Held.command_in.Goals as goal

pub returns-in-len1 : goal.returns-in-len1
returns-in-len1 c = λ h held.
    let k : Command = record { 0 = get_or c.args.input.now 0 0 } in
    let d = c.command.ensures h held in (
      d.0,
      d.1,
      commands-in c.args.input.now k h d.0 c.bare.result c.in-len1.len_at_least c.in-len1.len_below refl
          (subst (λ (t : Told). Follows (CommandActs k) h d.0 t) (sym c.bare.ensures) d.2),
    )
