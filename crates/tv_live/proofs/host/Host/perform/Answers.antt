use Rattle.std.proofs.Common.{◌≡◌, ap, false, refl, subst, sym, ◌∙◌}
use Rattle.tv_live.specs.Course.{Does}
use Rattle.tv_live.proofs.CourseLemmas.{desc-of, told-by}
use Rattle.tv_live.proofs.host.Host.perform.Goals as goal
use Rattle.tv_machine.specs.Run.{stepped}
use Rattle.tv_play.specs.Edge.{brought}
use Rattle.tv_play.specs.Ends.{is_refreshing}
use Rattle.tv_play.specs.declared.ends.Step.TheVariants as steps
use Rattle.tv_play.proofs.EdgeLemmas.{brought-placed}
use Rattle.tv_play.proofs.LiveLemmas.{placed-given}
use Rattle.tv_terminal.specs.Points.{IsPlaced}
use Rattle.tv_terminal.specs.declared.action.Action.TheVariants.{Event}

pub step-requires-clause-near : goal.step-requires-clause-near
step-requires-clause-near g c = placed-given c.brought-event.result (subst IsPlaced (sym c.brought-event.ensures) (brought-placed c.desc.result.now c.args.told.now c.requires.sent))

pub ask-requires : goal.ask-requires
ask-requires g c =
    let set = c.requires.ready.set in
    record {
      ready = record {
        set = record { session = stepped set.session c.brought-event.result; here = c.step.ensures.goes_on set.session set.here; size = set.size };
        going = c.requires.ready.going;
      };
    }

pub returns-clause-sees : goal.returns-clause-sees
returns-clause-sees g c = λ colours program s from causes living.
    let told = c.args.told.now in
    let e = c.brought-event.result in
    let was = living.now in
    let done = living.done in
    let taken = c.requires.taken was.session done.here in
    let comes : e ≡ brought was.session.desc told = c.brought-event.ensures ∙ ap (λ d. brought d told) (c.desc.ensures was.session done.here) in
    let calm : is_refreshing s.desc (Event told) ≡ false = subst (λ d. is_refreshing d (Event told) ≡ false) (desc-of g.P.Program.makes program s was living.earlier done.course) taken.2 in
    c.ask.ensures.asks colours program s from causes was living.earlier (stepped was.session e) (Does (Event told))
    (record { course = done.course; all = done.all; here = c.step.ensures.goes_on was.session done.here; left = done.left; size = done.size; painter = done.painter; shown = done.shown })
    living.goes refl calm refl
    (λ now asked. (steps.Perform told, taken, told-by was now told e c.leaves-is_left.result comes (c.leaves-is_left.ensures was.session done.here) asked))
