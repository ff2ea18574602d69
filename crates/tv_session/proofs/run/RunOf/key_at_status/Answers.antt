use Rattle.std.proofs.Common.{subst, sym, ◌∙◌}
use Rattle.tv_machine.proofs.StepLemmas.{key-no-menu}
use Rattle.tv_machine.specs.Session.Step.{status_item_of}
use Rattle.tv_session.specs.Running.{IsRunSince}
use Rattle.tv_session.proofs.EventLemmas.{key_turned, no_item}
use Rattle.tv_session.proofs.run.RunOf.key_at_status.Goals as goal

pub returns-in-Turned : goal.returns-in-Turned
returns-in-Turned g c = λ since s w menu held line.
    let a = w.0 in
    let d = c.args.desc.now in
    let k = c.args.key in
    let answer = c.in-Turned.ensures d s line (record { each = c.commands.ensures d s a.stands.dialogs }) in
    subst (λ t. IsRunSince g.V.View.meaning d since t c.command.new.self)
    (sym (key-no-menu d k s menu ∙ key_turned d (status_item_of d s k) k c.in-Turned.command s answer)) (c.command.ensures since s w menu held)

pub returns-in_default : goal.returns-in_default
returns-in_default g c = λ since s w menu held line.
    let a = w.0 in
    let d = c.args.desc.now in
    let none = no_item d (status_item_of d s c.args.key) c.offer.result (c.offer.ensures d s line (record { each = c.commands.ensures d s a.stands.dialogs })) c.in_default.not-Turned in
    c.key_below.ensures since s w menu none
