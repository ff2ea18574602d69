use Rattle.std.proofs.Common.{sym, ◌∙◌}
use Rattle.tv_window.specs.Damage.{windows_of}
use Rattle.tv_window.proofs.DeskDamageLemmas.{closed-alike, closed-within}
use Rattle.tv_window.proofs.DeskLemmas.{closed-desk, one-closed}
use Rattle.tv_window.proofs.desk.DeskOf.close_front.Goals as goal

pub returns-clause-desk : goal.returns-clause-desk
returns-clause-desk g c = λ d s is. closed-desk g.V.View.meaning d s c.args.self.now _ is c.remove.ensures.others

pub returns-clause-line : goal.returns-clause-line
returns-clause-line g c = λ d s is.
    one-closed g.V.View.meaning d s c.args.self.now is c.in_ok-window.window c.id.result (sym c.remove.ensures.item ∙ c.in_ok-window.was) c.id.ensures

pub returns-clause-damage : goal.returns-clause-damage
returns-clause-damage g c = λ d s is.
    closed-alike g.V.View.meaning d s c.args.self.now c.remove.new.self.items.items c.in_ok-window.window c.bounds.result c.args.damage.now c.add_with_shadow.new.self c.front_damage.new.damage
    is (sym c.remove.ensures.item ∙ c.in_ok-window.was) c.remove.ensures.others c.bounds.ensures.is c.add_with_shadow.ensures c.front_damage.ensures.added

pub returns-clause-grown : goal.returns-clause-grown
returns-clause-grown g c =
    closed-within (windows_of c.args.self.now) c.remove.new.self.items.items c.in_ok-window.window c.bounds.result c.args.damage.now c.add_with_shadow.new.self c.front_damage.new.damage
    (sym c.remove.ensures.item ∙ c.in_ok-window.was) c.remove.ensures.others c.bounds.ensures.is c.add_with_shadow.ensures c.front_damage.ensures.added
