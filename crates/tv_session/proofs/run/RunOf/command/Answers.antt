use Rattle.std.proofs.Common.{ap, subst, sym, ◌∙◌}
use Rattle.tv_machine.specs.Session.Step.{dialog_with_hold}
use Rattle.tv_session.specs.Running.{IsRunSince}
use Rattle.tv_session.proofs.CommandLemmas.{command_handed, given_command, in_idle, in_open, none_is, some_is, unheld}
use Rattle.tv_session.proofs.run.RunOf.command.Goals as goal

pub idle_command-requires : goal.idle_command-requires
idle_command-requires g c =
    let r = c.requires.awake in
    record { awake = (r.0, r.1, none_is r.0.dialog (sym (c.is_open.ensures c.args.desc.now r.0 r.1.stands.dialogs) ∙ c.if-is_open.false)) }

pub returns-then-is_open : goal.returns-then-is_open
returns-then-is_open g c = λ since s w menu held.
    let a = w.0 in
    let d = c.args.desc.now in
    let found = some_is s.dialog (sym (c.is_open.ensures d s a.stands.dialogs) ∙ c.if-is_open.true) in
    let loose = unheld found.0 (ap dialog_with_hold (sym found.1) ∙ held) in
    subst (λ t. IsRunSince g.V.View.meaning d since t c.hand_to_dialog.new.self)
    (command_handed d s found.0 c.args.command loose ∙ sym (in_open d c.args.command.0 s found.0 found.1))
    (c.hand_to_dialog.ensures since s found.0 w found.1 (given_command found.0.held c.args.command loose))

pub returns-else-is_open : goal.returns-else-is_open
returns-else-is_open g c = λ since s w menu held.
    let a = w.0 in
    let d = c.args.desc.now in
    let none = none_is s.dialog (sym (c.is_open.ensures d s a.stands.dialogs) ∙ c.if-is_open.false) in
    subst (λ t. IsRunSince g.V.View.meaning d since t c.idle_command.new.self) (sym (in_idle d c.args.command.0 s none)) (c.idle_command.ensures since s w none menu)
