use Rattle.std.proofs.Common.{refl, ap, subst, ◌∙◌}
use Rattle.tv_machine.specs.Session.Commands.{do_command}
use Rattle.tv_machine.specs.Session.Step.{dialog_with_hold}
use Rattle.tv_menu.specs.Bar.{open_of}
use Rattle.tv_session.specs.Running.{IsRunSince}
use Rattle.tv_session.proofs.CommandLemmas.{same_some}
use Rattle.tv_session.proofs.OfferLemmas.{offered_awake, offered_run}
use Rattle.tv_session.proofs.MarkedLemmas.{marked-aside}
use Rattle.tv_session.proofs.run.RunOf.offer_bar.Goals as goal

pub command-requires : goal.command-requires
command-requires g c =
    let r = c.requires.awake in
    let d = c.args.desc.now in
    record {
      awake = (
        record r.0 { menu = open_of c.offer.new.self },
        offered_awake g.V.View.meaning d r.0 c.args.self.now c.offer.new.self r.1 r.2 (c.offer.ensures.stays d r.1.stands.bar),
        ap dialog_with_hold r.2,
      );
    }

pub returns-in-Taken-clause-takes : goal.returns-in-Taken-clause-takes
returns-in-Taken-clause-takes g c = λ since s after w none is.
    let a = w.0 in
    let d = c.args.desc.now in (
      refl,
      subst (λ t. IsRunSince g.V.View.meaning d since t (record c.args.self.now { bar = c.offer.new.self })) (same_some (record s { menu = open_of c.offer.new.self }) after (c.in-Taken.ensures.answer d s a.stands.bar a.stands.menu ∙ is))
          (offered_run g.V.View.meaning d s c.args.self.now c.offer.new.self a (c.offer.ensures.stays d a.stands.bar), marked-aside d since s (record s { menu = open_of c.offer.new.self }) c.args.self.now.damage w.1 refl refl refl),
    )

pub returns-in-Turned-clause-takes : goal.returns-in-Turned-clause-takes
returns-in-Turned-clause-takes g c = λ since s after w none is.
    let a = w.0 in
    let d = c.args.desc.now in
    let stays = c.offer.ensures.stays d a.stands.bar in (
      refl,
      subst (λ t. IsRunSince g.V.View.meaning d since t c.command.new.self) (same_some (do_command d c.in-Turned.command.0 (record s { menu = open_of c.offer.new.self })) after (c.in-Turned.ensures.answer d s a.stands.bar a.stands.menu ∙ is))
          (c.command.ensures since (record s { menu = open_of c.offer.new.self }) (offered_awake g.V.View.meaning d s c.args.self.now c.offer.new.self a none stays, marked-aside d since s (record s { menu = open_of c.offer.new.self }) c.args.self.now.damage w.1 refl refl refl)
          (c.in-Turned.ensures.closed c.in-Turned.command refl) (ap dialog_with_hold none)),
    )
