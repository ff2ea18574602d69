use Rattle.std.proofs.Common.{is_some, ap, subst, sym, ◌∙◌}
use Rattle.tv_machine.specs.Session.Menu.{menu_key}
use Rattle.tv_machine.proofs.StepLemmas.{key_by_menu}
use Rattle.tv_laws.proofs.RunLemmas.{menu_idle}
use Rattle.tv_session.specs.Running.{IsRunSince}
use Rattle.tv_session.proofs.CommandLemmas.{some_is}
use Rattle.tv_session.proofs.EventLemmas.{menu_keyed}
use Rattle.tv_session.proofs.run.RunOf.key.Goals as goal

pub offer_bar-requires : goal.offer_bar-requires
offer_bar-requires g c =
    let s = c.requires.awake.0 in
    let a = c.requires.awake.1 in
    let found = some_is s.menu (ap (λ o. is_some o) a.stands.menu ∙ sym c.is_open.ensures ∙ c.if-is_open.true) in
    record { awake = (s, a, menu_idle c.args.desc.now a.sound s found.0 found.1 a.fit) }

pub returns-then-is_open : goal.returns-then-is_open
returns-then-is_open g c = λ since s w held line.
    let a = w.0 in
    let d = c.args.desc.now in
    let found = some_is s.menu (ap (λ o. is_some o) a.stands.menu ∙ sym c.is_open.ensures ∙ c.if-is_open.true) in
    subst (λ t. IsRunSince g.V.View.meaning d since t c.offer_bar.new.self) (sym (ap (λ o. key_by_menu d o c.args.key s) found.1))
    (c.offer_bar.ensures.takes since s (menu_key d found.0 c.args.key s) w (menu_idle d a.sound s found.0 found.1 a.fit) (menu_keyed d c.args.key found.0 s found.1)).1
