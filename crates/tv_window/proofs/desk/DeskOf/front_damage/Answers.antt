use Rattle.tv_window.specs.Damage.{windows_of}
use Rattle.tv_window.proofs.DeskDamageLemmas.{front-added, front-alike, none-added}
use Rattle.tv_window.proofs.desk.DeskOf.front_damage.Goals as goal

pub returns-in-Some : goal.returns-in-Some
returns-in-Some g c =
    let added = front-added (windows_of c.args.self.now) c.deref.result.now c.in-Some.front.now c.bounds.result c.args.damage.now c.add.new.self
    c.deref.ensures.value c.in-Some.ensures.value c.bounds.ensures.is c.add.ensures.added c.add.ensures.grown in
    record {
      active = λ d stack p is. front-alike g.V.View.meaning d stack c.args.self.now p c.args.damage.now c.add.new.self is added;
      added = added;
    }

pub returns-in_default : goal.returns-in_default
returns-in_default g c =
    let added = none-added (windows_of c.args.self.now) c.deref.result.now c.args.damage.now c.deref.ensures.value c.in_default.ensures.value in
    record {
      active = λ d stack p is. front-alike g.V.View.meaning d stack c.args.self.now p c.args.damage.now c.args.damage.now is added;
      added = added;
    }
