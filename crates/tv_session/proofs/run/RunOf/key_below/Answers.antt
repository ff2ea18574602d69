use Rattle.std.proofs.Common.{ap, subst, sym, ◌∙◌}
use Rattle.tv_machine.proofs.StepLemmas.{key-no-item, key_by_dialog}
use Rattle.tv_laws.proofs.RunLemmas.{given_key}
use Rattle.tv_session.specs.Running.{IsRunSince}
use Rattle.tv_session.proofs.CommandLemmas.{none_is, some_is}
use Rattle.tv_session.proofs.run.RunOf.key_below.Goals as goal

pub desktop_key-requires : goal.desktop_key-requires
desktop_key-requires g c = record { awake = (c.requires.awake.0, c.requires.awake.1, none_is c.requires.awake.0.dialog (sym (c.is_open.ensures c.args.desc.now c.requires.awake.0 c.requires.awake.1.stands.dialogs) ∙ c.if-is_open.false)) }

pub returns-then-is_open : goal.returns-then-is_open
returns-then-is_open g c = λ since s w menu item.
    let a = w.0 in
    let d = c.args.desc.now in
    let found = some_is s.dialog (sym (c.is_open.ensures d s a.stands.dialogs) ∙ c.if-is_open.true) in
    subst (λ t. IsRunSince g.V.View.meaning d since t c.hand_to_dialog.new.self) (sym (key-no-item d c.args.key s menu item ∙ ap (λ o. key_by_dialog d o c.args.key s) found.1))
    (c.hand_to_dialog.ensures since s found.0 w found.1 (given_key found.0.held c.args.key))

pub returns-else-is_open : goal.returns-else-is_open
returns-else-is_open g c = λ since s w menu item.
    let a = w.0 in
    let d = c.args.desc.now in
    let none = none_is s.dialog (sym (c.is_open.ensures d s a.stands.dialogs) ∙ c.if-is_open.false) in
    subst (λ t. IsRunSince g.V.View.meaning d since t c.desktop_key.new.self) (sym (key-no-item d c.args.key s menu item ∙ ap (λ o. key_by_dialog d o c.args.key s) none))
    (c.desktop_key.ensures since s w none menu)
