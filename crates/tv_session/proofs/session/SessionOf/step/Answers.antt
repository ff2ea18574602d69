use Rattle.std.proofs.Common.{subst, ◌∙◌}
use Rattle.tv_cells.specs.Damage.{HasWithin, Holds}
use Rattle.tv_laws.proofs.RunLemmas.{steps-fit}
use Rattle.tv_machine.specs.Screen.Bodies.{whole_screen}
use Rattle.tv_machine.specs.Screen.Layers.{layers_of}
use Rattle.tv_machine.specs.Session.Step.{step}
use Rattle.tv_session.proofs.RepaintLemmas.{can-repaint, fit-before, ran-after, shown-alike, screen-size, shown-before, stands-again}
use Rattle.tv_session.proofs.session.SessionOf.step.Goals as goal

pub step-requires-clause-size : goal.step-requires-clause-size
step-requires-clause-size g c = screen-size g.V.View.meaning c.args.self.now c.requires.there.0 c.desc-desc.result.now c.desc-desc.ensures.value c.requires.there.1

pub repaint-requires : goal.repaint-requires
repaint-requires g c =
    let look = g.V.View.meaning in
    let s = c.requires.there.0 in
    let r = c.requires.there.1 in
    let old = c.args.self.now in
    let d = c.desc-desc.result.now in
    let e = c.args.event.now in
    let lent = c.desc-desc.ensures.value in
    let ran = ran-after look old s d (λ x t. step x t e) c.step.new.self lent r c.step.ensures in
    (step d s.state e, can-repaint look old s d (λ x t. step x t e) c.step.new.self lent r c.desc-desc.ensures.sound_dialogs (screen-size look old s d lent r) ran.0)

pub returns-clause-stands : goal.returns-clause-stands
returns-clause-stands g c = λ s r.
    let look = g.V.View.meaning in
    let old = c.args.self.now in
    let d = c.desc-desc.result.now in
    let e = c.args.event.now in
    let run = c.step.new.self in
    let lent = c.desc-desc.ensures.value in
    let sound = c.desc-desc.ensures.sound_dialogs in
    let ran = ran-after look old s d (λ x t. step x t e) run lent r c.step.ensures in
    let can = can-repaint look old s d (λ x t. step x t e) run lent r sound (screen-size look old s d lent r) ran.0 in
    let whole = subst (λ q. HasWithin q run.damage c.replace_damage.new.painted) c.whole_screen.ensures c.replace_damage.ensures.all in
    let alike = shown-alike d s.state (step d s.state e) run.damage c.replace_damage.new.painted old.screen can.size can.width can.height whole ran.1 in
    let fit = steps-fit d sound s.state e (fit-before look old s d (λ x t. step x t e) run lent r) in
    stands-again look old s d (λ x t. step x t e) run lent r c.repaint.new.screen c.replace_damage.new.painted fit ran.0 c.repaint.ensures.size
    (c.repaint.ensures.shows (step d s.state e) (layers_of d s.state) can (shown-before look old s d (λ x t. step x t e) run lent r) alike)

pub returns-clause-within : goal.returns-clause-within
returns-clause-within g c = λ s r.
    subst (λ d. Holds (whole_screen d) c.replace_damage.new.painted) (c.desc-desc.ensures.value ∙ r.desc)
    (subst (λ q. Holds q c.replace_damage.new.painted) c.whole_screen.ensures c.replace_damage.ensures.within)
