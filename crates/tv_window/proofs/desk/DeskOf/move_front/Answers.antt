use Rattle.std.proofs.Common.{refl, arith}
use Rattle.tv_window.specs.Damage.{windows_of}
use Rattle.tv_window.proofs.DeskDamageLemmas.{dragged-alike, front-dragged, front-set}
use Rattle.tv_window.proofs.DeskLemmas.{moved-desk}
use Rattle.tv_window.proofs.desk.DeskOf.move_front.Goals as goal

pub returns-in-Some-clause-desk : goal.returns-in-Some-clause-desk
returns-in-Some-clause-desk g c = λ d stack is.
    let windows = windows_of c.args.self.now in
    let front = c.in-Some.front.now in
    moved-desk g.V.View.meaning d c.args.corner stack c.args.self.now _ is
    (front-set windows front front c.move_to.new.self c.args.corner (omega (arith, c.in-Some.ensures.variant.0 refl, c.args.self.now.windows.items.ok.0)) c.in-Some.ensures.value c.move_to.ensures.moved)

pub returns-in-Some-clause-damage : goal.returns-in-Some-clause-damage
returns-in-Some-clause-damage g c = λ d stack is.
    let windows = windows_of c.args.self.now in
    let front = c.in-Some.front.now in
    dragged-alike g.V.View.meaning d c.args.corner stack windows c.args.damage.now c.move_to.new.damage is.windows
    (front-dragged windows front front c.args.corner c.args.damage.now c.move_to.new.damage (omega (arith, c.in-Some.ensures.variant.0 refl, c.args.self.now.windows.items.ok.0)) c.in-Some.ensures.value c.move_to.ensures.damage)
