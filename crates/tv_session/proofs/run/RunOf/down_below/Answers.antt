use Rattle.std.proofs.Common.{Bool, if◌then◌else◌, ap, subst, sym, ◌∙◌}
use Rattle.tv_machine.proofs.StepLemmas.{down_by_dialog}
use Rattle.tv_machine.specs.Session.Step.{down_on_dialog}
use Rattle.tv_session.specs.Running.{IsRunSince}
use Rattle.tv_session.proofs.CommandLemmas.{none_is, some_is}
use Rattle.tv_session.proofs.EventLemmas.{status_left}
use Rattle.tv_session.proofs.run.RunOf.down_below.Goals as goal

pub desktop_down-requires : goal.desktop_down-requires
desktop_down-requires g c =
    let r = c.requires.awake in
    record { near = c.requires.near; awake = (r.0, r.1, none_is r.0.dialog (sym (c.is_open.ensures c.args.desc.now r.0 r.1.stands.dialogs) ∙ c.if-is_open.false)) }

pub returns-else-is_open : goal.returns-else-is_open
returns-else-is_open g c = λ since s w menu left.
    let a = w.0 in
    let d = c.args.desc.now in
    let none = none_is s.dialog (sym (c.is_open.ensures d s a.stands.dialogs) ∙ c.if-is_open.false) in
    subst (λ t. IsRunSince g.V.View.meaning d since t c.desktop_down.new.self) (sym (status_left d c.args.point s menu left ∙ ap (λ o. down_by_dialog d o c.args.point s) none))
    (c.desktop_down.ensures since s w none menu)

pub returns-then-is_on_desktop : goal.returns-then-is_on_desktop
returns-then-is_on_desktop g c = λ since s w menu left.
    let a = w.0 in
    let d = c.args.desc.now in
    let p = c.args.point in
    let found = some_is s.dialog (sym (c.is_open.ensures d s a.stands.dialogs) ∙ c.if-is_open.true) in
    let inside = sym c.is_on_desktop.ensures ∙ c.if-is_on_desktop.true in
    subst (λ t. IsRunSince g.V.View.meaning d since t c.dialog_down.new.self)
    (sym (status_left d p s menu left ∙ ap (λ o. down_by_dialog d o p s) found.1 ∙ ap (λ (b : Bool). if b then down_on_dialog d found.0 p s else s) inside))
    (c.dialog_down.ensures since s found.0 w found.1)

pub returns-else-is_on_desktop : goal.returns-else-is_on_desktop
returns-else-is_on_desktop g c = λ since s w menu left.
    let a = w.0 in
    let d = c.args.desc.now in
    let p = c.args.point in
    let found = some_is s.dialog (sym (c.is_open.ensures d s a.stands.dialogs) ∙ c.if-is_open.true) in
    let outside = sym c.is_on_desktop.ensures ∙ c.if-is_on_desktop.false in
    subst (λ t. IsRunSince g.V.View.meaning d since t c.args.self.now)
    (sym (status_left d p s menu left ∙ ap (λ o. down_by_dialog d o p s) found.1 ∙ ap (λ (b : Bool). if b then down_on_dialog d found.0 p s else s) outside)) (a.stands, w.1)
