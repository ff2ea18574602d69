use Rattle.std.proofs.Common.{length, refl}
use Rattle.std.proofs.lemmas.Option.{slice_get_read}
use Rattle.tv_window.specs.Damage.{windows_of}
use Rattle.tv_window.proofs.DeskDamageLemmas.{raised-alike, raised-within}
use Rattle.tv_window.proofs.desk.DeskOf.raise.Goals as goal

pub returns-then-place-gt0-clause-damage : goal.returns-then-place-gt0-clause-damage
returns-then-place-gt0-clause-damage g c = λ d stack is.
    let windows = windows_of c.args.self.now in
    let at = slice_get_read windows (length windows) c.args.place c.index.result.now refl c.requires c.index.ensures in
    raised-alike g.V.View.meaning d stack c.args.self.now c.args.place c.index.result.now c.bounds.result c.args.damage.now c.add_with_shadow.new.self c.front_damage.new.damage
    is c.requires at c.bounds.ensures.is c.add_with_shadow.ensures c.front_damage.ensures.added

pub returns-then-place-gt0-clause-grown : goal.returns-then-place-gt0-clause-grown
returns-then-place-gt0-clause-grown g c =
    let windows = windows_of c.args.self.now in
    let at = slice_get_read windows (length windows) c.args.place c.index.result.now refl c.requires c.index.ensures in
    raised-within windows c.args.place c.index.result.now c.bounds.result c.args.damage.now c.add_with_shadow.new.self c.front_damage.new.damage
    c.if-place-gt0.true at c.bounds.ensures.is c.add_with_shadow.ensures c.front_damage.ensures.added
