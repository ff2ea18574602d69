use Rattle.std.proofs.Common.{◌≡◌, ◌∙◌, ap, false, subst, sym}
use Rattle.tv_app.specs.Running.{Runs, stepped}
use Rattle.tv_event.specs.declared.event.Event.{Event}
use Rattle.tv_held.proofs.ActingLemmas.{acts-performed}
use Rattle.tv_held.specs.Holding.{answer_after}
use Rattle.tv_model.specs.declared.desc.Desc.{Desc}
use Rattle.tv_play.specs.Edge.{brought}
use Rattle.tv_play.specs.Ends.{is_leaving, is_refreshing}
use Rattle.tv_held.proofs.acting.do_action.Goals as goal

pub returns-in-Perform : goal.returns-in-Perform
returns-in-Perform c = λ s runs l.
    let action = c.args.action in
    let e = c.in-Perform.event in
    let own : c.desc.result.now ≡ s.desc = c.desc.ensures s runs in
    let event : c.brought-event.result ≡ brought s.desc e = c.brought-event.ensures ∙ ap (λ (d : Desc). brought d e) (c.desc-in-Perform.ensures s runs) in
    let stays : is_leaving s.desc action ≡ false = ap (λ (d : Desc). is_leaving d action) (sym own) ∙ c.in-Perform.ensures.1 in
    let calm : is_refreshing s.desc action ≡ false = ap (λ (d : Desc). is_refreshing d action) (sym own) ∙ c.in-Perform.ensures.2 in (
      stepped s (brought s.desc e),
      subst (λ (x : Event). Runs c.perform.new.app (stepped s x)) event (c.perform.ensures.goes_on s runs),
      acts-performed s l action e stays calm c.in-Perform.ensures.0 c.perform.result
          (subst (λ (x : Event). c.perform.result ≡ answer_after (stepped s x)) event (c.perform.ensures.answer s runs)),
    )
