use Rattle.std.proofs.Common.{subst, sym}
use Rattle.tv_session.specs.Running.{IsRunSince}
use Rattle.tv_session.proofs.EventLemmas.{status_taken, status_turned}
use Rattle.tv_session.proofs.run.RunOf.down_at_status.Goals as goal

pub returns-in-Turned : goal.returns-in-Turned
returns-in-Turned g c = λ since s w menu held line.
    let a = w.0 in
    let d = c.args.desc.now in
    let answer = c.in-Turned.ensures d s line (record { each = c.commands.ensures d s a.stands.dialogs }) in
    subst (λ t. IsRunSince g.V.View.meaning d since t c.command.new.self) (sym (status_turned d c.args.point c.in-Turned.command s menu (sym answer))) (c.command.ensures since s w menu held)

pub returns-in-Taken : goal.returns-in-Taken
returns-in-Taken g c = λ since s w menu held line.
    let a = w.0 in
    let d = c.args.desc.now in
    let answer = c.in-Taken.ensures d s line (record { each = c.commands.ensures d s a.stands.dialogs }) in
    subst (λ t. IsRunSince g.V.View.meaning d since t c.args.self.now) (sym (status_taken d c.args.point s menu (sym answer))) (a.stands, w.1)

pub returns-in-Left : goal.returns-in-Left
returns-in-Left g c = λ since s w menu held line.
    let a = w.0 in
    let d = c.args.desc.now in
    let answer = c.in-Left.ensures d s line (record { each = c.commands.ensures d s a.stands.dialogs }) in
    c.down_below.ensures since s w menu (sym answer)
