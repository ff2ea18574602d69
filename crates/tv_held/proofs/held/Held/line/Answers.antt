use Rattle.std.proofs.Common.{refl}
use Rattle.tv_app.specs.Running.{stepped}
use Rattle.tv_held.proofs.ActingLemmas.{line-performed, line-refused, refused-so}
use Rattle.tv_held.proofs.HeldLemmas.{leads-on}
use Rattle.tv_held.specs.Acting.{LineActs}
use Rattle.tv_held.specs.Holding.{bare}
use Rattle.tv_held.proofs.held.Held.line.Goals as goal

pub returns-in-Ok-event_of : goal.returns-in-Ok-event_of
returns-in-Ok-event_of c = λ h held.
    let text = c.args.line.now in
    let l = c.args.self.now.decoder in
    let e = c.in-Ok-event_of.event in
    leads-on (LineActs text) c.args.self.now h (bare c.perform.result) held c.in-Ok.app c.in-Ok.is
    c.perform.new.app l
    (λ s runs. (
      stepped s e,
      l,
      c.perform.ensures.goes_on s runs,
      refl,
      record { none = refl; acts = line-performed text s l e (c.in-Ok-event_of.ensures.event s runs) 0 c.perform.result (c.perform.ensures.answer s runs) },
    ))

pub returns-in-Err-event_of : goal.returns-in-Err-event_of
returns-in-Err-event_of c = λ h held.
    let text = c.args.line.now in
    let l = c.args.self.now.decoder in
    let answer = c.in-Err-event_of.answer in
    leads-on (LineActs text) c.args.self.now h (bare answer) held c.in-Ok.app c.in-Ok.is
    c.in-Ok.app l
    (λ s runs. (
      s,
      l,
      runs,
      refl,
      record { none = refl; acts = line-refused text s l 0 answer (refused-so c.in-Ok.app text answer s runs (c.in-Err-event_of.ensures {u = tt}).refused) },
    ))
