use Rattle.std.proofs.Common.{◌≡◌, subst, ◌∙◌}
use Rattle.tv_cells.specs.Damage.{HasWithin, Holds}
use Rattle.tv_laws.proofs.RunLemmas.{commands-fit}
use Rattle.tv_machine.specs.Screen.Bodies.{whole_screen}
use Rattle.tv_machine.specs.Screen.Layers.{layers_of}
use Rattle.tv_machine.specs.Session.Step.{give_command, takes_command}
use Rattle.tv_session.proofs.RepaintLemmas.{can-repaint, fit-before, ran-after, run-before, shown-alike, screen-size, shown-before, stands-again}
use Rattle.tv_session.proofs.session.SessionOf.command.Goals as goal

pub give_command-taken-requires-clause-size : goal.give_command-taken-requires-clause-size
give_command-taken-requires-clause-size g c = screen-size g.V.View.meaning c.args.self.now c.requires.0 c.desc-desc.result.now c.desc-desc.ensures.value c.requires.1

pub repaint-requires : goal.repaint-requires
repaint-requires g c =
    let look = g.V.View.meaning in
    let s = c.requires.0 in
    let r = c.requires.1 in
    let old = c.args.self.now in
    let d = c.desc-desc.result.now in
    let n = c.args.command.0 in
    let lent = c.desc-desc.ensures.value in
    let ran = ran-after look old s d (λ x t. give_command x t n) c.give_command-taken.new.self lent r c.give_command-taken.ensures.stands in
    (give_command d s.state n, can-repaint look old s d (λ x t. give_command x t n) c.give_command-taken.new.self lent r c.desc-desc.ensures.sound_dialogs (screen-size look old s d lent r) ran.0)

pub returns-clause-stands : goal.returns-clause-stands
returns-clause-stands g c = λ s r.
    let look = g.V.View.meaning in
    let old = c.args.self.now in
    let d = c.desc-desc.result.now in
    let n = c.args.command.0 in
    let run = c.give_command-taken.new.self in
    let lent = c.desc-desc.ensures.value in
    let sound = c.desc-desc.ensures.sound_dialogs in
    let ran = ran-after look old s d (λ x t. give_command x t n) run lent r c.give_command-taken.ensures.stands in
    let can = can-repaint look old s d (λ x t. give_command x t n) run lent r sound (screen-size look old s d lent r) ran.0 in
    let whole = subst (λ q. HasWithin q run.damage c.replace_damage.new.painted) c.whole_screen.ensures c.replace_damage.ensures.all in
    let alike = shown-alike d s.state (give_command d s.state n) run.damage c.replace_damage.new.painted old.screen can.size can.width can.height whole ran.1 in
    let fit = commands-fit d sound s.state n (fit-before look old s d (λ x t. give_command x t n) run lent r) in
    stands-again look old s d (λ x t. give_command x t n) run lent r c.repaint.new.screen c.replace_damage.new.painted fit ran.0 c.repaint.ensures.size
    (c.repaint.ensures.shows (give_command d s.state n) (layers_of d s.state) can (shown-before look old s d (λ x t. give_command x t n) run lent r) alike)

pub returns-clause-within : goal.returns-clause-within
returns-clause-within g c = λ s r.
    subst (λ d. Holds (whole_screen d) c.replace_damage.new.painted) (c.desc-desc.ensures.value ∙ r.desc)
    (subst (λ q. Holds q c.replace_damage.new.painted) c.whole_screen.ensures c.replace_damage.ensures.within)

pub returns-clause-taken : goal.returns-clause-taken
returns-clause-taken g c = λ s r.
    let look = g.V.View.meaning in
    let d = c.desc-desc.result.now in
    let n = c.args.command.0 in
    let lent = c.desc-desc.ensures.value in
    subst (λ x. c.give_command-taken.result ≡ takes_command x s.state n) (lent ∙ r.desc)
    (c.give_command-taken.ensures.taken s.state (run-before look c.args.self.now s d (λ x t. give_command x t n) c.give_command-taken.new.self lent r) (fit-before look c.args.self.now s d (λ x t. give_command x t n) c.give_command-taken.new.self lent r))
