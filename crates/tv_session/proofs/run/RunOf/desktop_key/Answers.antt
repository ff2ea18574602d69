use Rattle.std.proofs.Common.{◌≡◌, None, ap, subst, sym, ◌∙◌}
use Rattle.tv_event.specs.declared.event.Event.TheVariants as events
use Rattle.tv_window.specs.Desk.{IsDesk}
use Rattle.tv_machine.specs.Session.Desktop.{desktop_key, window_of_digit}
use Rattle.tv_menu.specs.Bar.{bar_offer, closed_key}
use Rattle.tv_session.specs.Running.{IsRunSince}
use Rattle.tv_session.proofs.EventLemmas.{alt_left, bar_key, closed_after, left_none, taken_some}
use Rattle.tv_session.proofs.RunningLemmas.{run_raised}
use Rattle.tv_session.proofs.MarkedLemmas.{marked-raised}
use Rattle.tv_session.specs.Running.{ShowAlikeOff}
use Rattle.tv_session.proofs.run.RunOf.desktop_key.Goals as goal

pub returns-in-Alt : goal.returns-in-Alt
returns-in-Alt g c = λ since s w none menu.
    let a = w.0 in
    let d = c.args.desc.now in
    let look = g.V.View.meaning in
    let k = c.args.key in
    let is = left_none c.offer_bar.result (bar_offer d (events.Key k) s) (λ after e. (c.offer_bar.ensures.takes since s after w none e).0) c.if-offer_bar.false in
    let same = (c.offer_bar.ensures.leaves s a none is).1 in
    let closed = sym (bar_key d c.args.key s menu) ∙ is in
    let letter = c.in-Alt.letter in
    let desk = subst (λ run. IsDesk look d s.windows run.desk) (sym same) a.stands.desk in
    subst (λ t. IsRunSince look d since t (record c.offer_bar.new.self { desk = c.raise_number.new.self; damage = c.raise_number.new.damage }))
    (sym (ap (λ key. desktop_key d key s) c.in-Alt.is ∙ alt_left d letter s (subst (λ key. closed_key d key s ≡ None) c.in-Alt.is closed))) (
      run_raised look d s (window_of_digit d s letter) c.args.self.now c.offer_bar.new.self c.raise_number.new.self c.raise_number.new.damage a.stands same (c.raise_number.ensures.desk d s desk),
      marked-raised d since s (window_of_digit d s letter) c.offer_bar.new.self.damage c.raise_number.new.damage (subst (λ run. ShowAlikeOff d since s run.damage) (sym same) w.1) c.raise_number.ensures.grown.kept (c.raise_number.ensures.damage d s desk),
    )

pub returns-then-offer_bar : goal.returns-then-offer_bar
returns-then-offer_bar g c = λ since s w none menu.
    let a = w.0 in
    let d = c.args.desc.now in
    let found = taken_some c.offer_bar.result (bar_offer d (events.Key c.args.key) s) (λ e. (c.offer_bar.ensures.leaves s a none e).0) c.if-offer_bar.true in
    subst (λ t. IsRunSince g.V.View.meaning d since t c.offer_bar.new.self)
    (sym (closed_after d c.args.key s found.0 (sym (bar_key d c.args.key s menu) ∙ found.1))) (c.offer_bar.ensures.takes since s found.0 w none found.1).1
