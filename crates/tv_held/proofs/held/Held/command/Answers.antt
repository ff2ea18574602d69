use Rattle.std.proofs.Common.{◌∙◌, ap, refl, sym}
use Rattle.tv_app.specs.Running.{commanded}
use Rattle.tv_held.proofs.HeldLemmas.{leads-on}
use Rattle.tv_held.specs.Acting.{CommandActs, command_answer}
use Rattle.tv_held.specs.Holding.{bare}
use Rattle.tv_held.specs.declared.answer.Answer.TheVariants as answers
use Rattle.tv_held.proofs.held.Held.command.Goals as goal

pub returns-then-command : goal.returns-then-command
returns-then-command c = λ h held.
    let k = c.args.command in
    let l = c.args.self.now.decoder in
    leads-on (CommandActs k) c.args.self.now h (bare c.answer_after.result) held c.in-Ok.app c.in-Ok.is
    c.command.new.self l
    (λ s runs. (
      commanded s k,
      l,
      c.command.ensures.goes_on s runs,
      refl,
      record {
        none = refl;
        goes_on = refl;
        acts = c.answer_after.ensures (commanded s k) (c.command.ensures.goes_on s runs)
            ∙ ap (λ b. command_answer b (commanded s k)) (sym c.if-command.true ∙ c.command.ensures.taken s runs);
      },
    ))

pub returns-else-command : goal.returns-else-command
returns-else-command c = λ h held.
    let k = c.args.command in
    let l = c.args.self.now.decoder in
    leads-on (CommandActs k) c.args.self.now h (bare answers.Refused) held c.in-Ok.app c.in-Ok.is
    c.command.new.self l
    (λ s runs. (
      commanded s k,
      l,
      c.command.ensures.goes_on s runs,
      refl,
      record { none = refl; goes_on = refl; acts = ap (λ b. command_answer b (commanded s k)) (sym c.if-command.false ∙ c.command.ensures.taken s runs) },
    ))
