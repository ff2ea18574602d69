use Rattle.std.proofs.Common.{Bool, if◌then◌else◌, ap, subst, sym, ◌∙◌}
use Rattle.tv_event.specs.declared.event.Event.TheVariants as events
use Rattle.tv_machine.specs.Session.Desktop.{down_on_desktop, window_under}
use Rattle.tv_menu.specs.Bar.{bar_offer}
use Rattle.tv_session.specs.Running.{IsAwake, IsAwakeSince, IsRunSince}
use Rattle.tv_session.proofs.EventLemmas.{bar_down, down_after, down_left, left_none, taken_some}
use Rattle.tv_session.proofs.MarkedLemmas.{marked-same}
use Rattle.tv_session.proofs.run.RunOf.desktop_down.Goals as goal

pub window_down-requires : goal.window_down-requires
window_down-requires g c =
    let d = c.args.desc.now in
    let s = c.requires.awake.0 in
    let a = c.requires.awake.1 in
    let none = c.requires.awake.2 in
    let is = left_none c.offer_bar.result (bar_offer d (events.Down c.args.point) s) (λ after e. (c.offer_bar.ensures.takes s s after (a, marked-same d s c.args.self.now.damage) none e).0) c.if-offer_bar.false in
    record { near = c.requires.near; awake = (s, subst (IsAwake g.V.View.meaning d s) (sym (c.offer_bar.ensures.leaves s a none is).1) a, none) }

pub returns-then-is_on_desktop : goal.returns-then-is_on_desktop
returns-then-is_on_desktop g c = λ since s w none menu.
    let a = w.0 in
    let d = c.args.desc.now in
    let p = c.args.point in
    let is = left_none c.offer_bar.result (bar_offer d (events.Down p) s) (λ after e. (c.offer_bar.ensures.takes since s after w none e).0) c.if-offer_bar.false in
    let inside = sym c.is_on_desktop.ensures ∙ c.if-is_on_desktop.true in
    subst (λ t. IsRunSince g.V.View.meaning d since t c.window_down.new.self)
    (sym (down_left d p s (sym (bar_down d p s menu) ∙ is) ∙ ap (λ (b : Bool). if b then down_on_desktop d (window_under d s p) p s else s) inside))
    (c.window_down.ensures since s (subst (IsAwakeSince g.V.View.meaning d since s) (sym (c.offer_bar.ensures.leaves s a none is).1) w) none menu)

pub returns-else-is_on_desktop : goal.returns-else-is_on_desktop
returns-else-is_on_desktop g c = λ since s w none menu.
    let a = w.0 in
    let d = c.args.desc.now in
    let p = c.args.point in
    let is = left_none c.offer_bar.result (bar_offer d (events.Down p) s) (λ after e. (c.offer_bar.ensures.takes since s after w none e).0) c.if-offer_bar.false in
    let outside = sym c.is_on_desktop.ensures ∙ c.if-is_on_desktop.false in
    subst (λ t. IsRunSince g.V.View.meaning d since t c.offer_bar.new.self)
    (sym (down_left d p s (sym (bar_down d p s menu) ∙ is) ∙ ap (λ (b : Bool). if b then down_on_desktop d (window_under d s p) p s else s) outside))
    (subst (IsRunSince g.V.View.meaning d since s) (sym (c.offer_bar.ensures.leaves s a none is).1) (a.stands, w.1))

pub returns-then-offer_bar : goal.returns-then-offer_bar
returns-then-offer_bar g c = λ since s w none menu.
    let a = w.0 in
    let d = c.args.desc.now in
    let p = c.args.point in
    let found = taken_some c.offer_bar.result (bar_offer d (events.Down p) s) (λ e. (c.offer_bar.ensures.leaves s a none e).0) c.if-offer_bar.true in
    subst (λ t. IsRunSince g.V.View.meaning d since t c.offer_bar.new.self)
    (sym (down_after d p s found.0 (sym (bar_down d p s menu) ∙ found.1))) (c.offer_bar.ensures.takes since s found.0 w none found.1).1
