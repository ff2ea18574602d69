use Rattle.std.proofs.Common.{◌∙◌, refl, sym, subst, Option}
use Rattle.tv_held.proofs.HeldLemmas.{leads-on}
use Rattle.tv_held.specs.Acting.{HeardActs, PauseActs}
use Rattle.tv_held.specs.Holding.{Running, bare}
use Rattle.tv_held.specs.declared.answer.Answer.TheVariants as answers
use Rattle.tv_terminal.specs.Decoding.{Listening, between}
use Rattle.tv_terminal.specs.declared.action.Action.{Action}
use Rattle.tv_held.proofs.held.Held.pause.Goals as goal

pub returns-in-Some : goal.returns-in-Some
returns-in-Some c = λ h held.
    let m : Listening = between c.args.self.now.decoder.is_pasting in
    leads-on PauseActs c.args.self.now h (bare c.do_action.result) held c.in-Ok.app c.in-Ok.is
    c.do_action.new.app c.pause.new.self
    (λ s runs.
    let d = c.do_action.ensures s runs m in (
      d.0,
      m,
      d.1,
      c.pause.ensures.kept,
      record {
        none = refl;
        acts = subst (λ (a : Option Action). HeardActs a s m (Running d.0 m) c.do_action.result) (sym c.in-Some.is ∙ c.pause.ensures.heard) d.2;
      },
    ))

pub returns-in-None : goal.returns-in-None
returns-in-None c = λ h held.
    let m : Listening = between c.args.self.now.decoder.is_pasting in
    leads-on PauseActs c.args.self.now h (bare answers.Done) held c.in-Ok.app c.in-Ok.is
    c.in-Ok.app c.pause.new.self
    (λ s runs. (
      s,
      m,
      runs,
      c.pause.ensures.kept,
      record {
        none = refl;
        acts = subst (λ (a : Option Action). HeardActs a s m (Running s m) answers.Done) (sym c.in-None.is ∙ c.pause.ensures.heard) (refl, refl);
      },
    ))
