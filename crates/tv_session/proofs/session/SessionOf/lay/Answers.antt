use Rattle.std.proofs.Common.{◌≡◌, subst, ◌∙◌}
use Rattle.tv_cells.specs.Damage.{HasWithin, Holds}
use Rattle.tv_laws.proofs.SheetLemmas.{sheets-fit}
use Rattle.tv_machine.specs.Screen.Bodies.{whole_screen}
use Rattle.tv_machine.specs.Screen.Layers.{layers_of}
use Rattle.tv_machine.specs.Session.Laid.{laid}
use Rattle.tv_session.proofs.RepaintLemmas.{can-repaint, fit-before, ran-after, shown-alike, screen-size, shown-before, stands-again}
use Rattle.tv_session.proofs.session.SessionOf.lay.Goals as goal

pub repaint-requires : goal.repaint-requires
repaint-requires g c =
    let look = g.V.View.meaning in
    let s = c.requires.0 in
    let r = c.requires.1 in
    let old = c.args.self.now in
    let d = c.desc-desc.result.now in
    let i = c.args.id in
    let sheet = c.args.sheet in
    let lent = c.desc-desc.ensures.value in
    let ran = ran-after look old s d (λ x t. laid x i sheet t) c.lay.new.self lent r c.lay.ensures in
    (laid d i sheet s.state, can-repaint look old s d (λ x t. laid x i sheet t) c.lay.new.self lent r c.desc-desc.ensures.sound_dialogs (screen-size look old s d lent r) ran.0)

pub returns-clause-stands : goal.returns-clause-stands
returns-clause-stands g c = λ s r.
    let look = g.V.View.meaning in
    let old = c.args.self.now in
    let d = c.desc-desc.result.now in
    let i = c.args.id in
    let sheet = c.args.sheet in
    let run = c.lay.new.self in
    let lent = c.desc-desc.ensures.value in
    let sound = c.desc-desc.ensures.sound_dialogs in
    let ran = ran-after look old s d (λ x t. laid x i sheet t) run lent r c.lay.ensures in
    let can = can-repaint look old s d (λ x t. laid x i sheet t) run lent r sound (screen-size look old s d lent r) ran.0 in
    let whole = subst (λ q. HasWithin q run.damage c.replace_damage.new.painted) c.whole_screen.ensures c.replace_damage.ensures.all in
    let alike = shown-alike d s.state (laid d i sheet s.state) run.damage c.replace_damage.new.painted old.screen can.size can.width can.height whole ran.1 in
    let fit = sheets-fit d s.state i sheet (fit-before look old s d (λ x t. laid x i sheet t) run lent r) in
    stands-again look old s d (λ x t. laid x i sheet t) run lent r c.repaint.new.screen c.replace_damage.new.painted fit ran.0 c.repaint.ensures.size
    (c.repaint.ensures.shows (laid d i sheet s.state) (layers_of d s.state) can (shown-before look old s d (λ x t. laid x i sheet t) run lent r) alike)

pub returns-clause-within : goal.returns-clause-within
returns-clause-within g c = λ s r.
    subst (λ d. Holds (whole_screen d) c.replace_damage.new.painted) (c.desc-desc.ensures.value ∙ r.desc)
    (subst (λ q. Holds q c.replace_damage.new.painted) c.whole_screen.ensures c.replace_damage.ensures.within)
