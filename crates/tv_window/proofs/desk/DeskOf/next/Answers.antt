use Rattle.std.proofs.Common.{refl, arith}
use Rattle.tv_window.specs.Damage.{windows_of}
use Rattle.tv_window.proofs.DeskDamageLemmas.{last-within, moved-alike, still-alike}
use Rattle.tv_window.proofs.DeskLemmas.{next-desk, next-empty}
use Rattle.tv_window.proofs.desk.DeskOf.next.Goals as goal

pub returns-in-Some-clause-desk : goal.returns-in-Some-clause-desk
returns-in-Some-clause-desk g c = λ d stack is.
    next-desk g.V.View.meaning d stack c.args.self.now _ c.in-Some.last
    (omega (arith, c.in-Some.ensures, c.len.ensures, c.args.self.now.windows.items.ok.0)) c.raise.ensures.windows is

pub returns-in-Some-clause-damage : goal.returns-in-Some-clause-damage
returns-in-Some-clause-damage g c = λ d stack is.
    moved-alike g.V.View.meaning d stack _ c.args.self.now _ c.in-Some.last _ c.raise.ensures.windows is (returns-in-Some-clause-desk g c d stack is) (c.raise.ensures.damage d stack is)

pub returns-in-Some-clause-grown : goal.returns-in-Some-clause-grown
returns-in-Some-clause-grown g c =
    last-within (windows_of c.args.self.now) c.in-Some.last c.args.damage.now c.raise.new.damage
    (omega (arith, c.in-Some.ensures, c.len.ensures, c.args.self.now.windows.items.ok.0)) c.raise.ensures.grown

pub returns-in_default-clause-desk : goal.returns-in_default-clause-desk
returns-in_default-clause-desk g c = λ d stack is.
    next-empty g.V.View.meaning d stack c.args.self.now _ (omega (arith, c.in_default.ensures, c.len.ensures, c.args.self.now.windows.items.ok.0)) refl is

pub returns-in_default-clause-damage : goal.returns-in_default-clause-damage
returns-in_default-clause-damage g c = λ d stack is.
    still-alike g.V.View.meaning d stack _ c.args.self.now _ _ refl is (returns-in_default-clause-desk g c d stack is)
