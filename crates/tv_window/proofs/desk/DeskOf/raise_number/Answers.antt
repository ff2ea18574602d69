use Rattle.std.proofs.Common.{ap, refl, sym, ◌∙◌}
use Rattle.tv_window.specs.Damage.{digit_place, windows_of}
use Rattle.tv_window.proofs.DeskDamageLemmas.{moved-alike, moved-within, still-alike}
use Rattle.tv_window.proofs.DeskLemmas.{digit-kept, digit-raised}
use Rattle.tv_window.proofs.desk.DeskOf.raise_number.Goals as goal

pub returns-in-Some-clause-desk : goal.returns-in-Some-clause-desk
returns-in-Some-clause-desk g c = λ d s is.
    digit-raised g.V.View.meaning d s c.args.self.now _ is c.deref.result.now c.deref.ensures.value c.args.letter c.in-Some.place
    (sym c.place_of_digit.ensures ∙ c.in-Some.is) c.raise.ensures.windows

pub returns-in-Some-clause-damage : goal.returns-in-Some-clause-damage
returns-in-Some-clause-damage g c = λ d s is.
    moved-alike g.V.View.meaning d s.windows _ c.args.self.now _ c.in-Some.place _ c.raise.ensures.windows is (returns-in-Some-clause-desk g c d s is) (c.raise.ensures.damage d s.windows is)

pub returns-in-Some-clause-grown : goal.returns-in-Some-clause-grown
returns-in-Some-clause-grown g c =
    let windows = windows_of c.args.self.now in
    moved-within windows (digit_place windows c.args.letter) c.in-Some.place c.args.damage.now c.raise.new.damage
    (ap (λ seen. digit_place seen c.args.letter) (sym c.deref.ensures.value) ∙ (sym c.place_of_digit.ensures ∙ c.in-Some.is)) c.raise.ensures.grown

pub returns-in_default-clause-desk : goal.returns-in_default-clause-desk
returns-in_default-clause-desk g c = λ d s is.
    digit-kept g.V.View.meaning d s c.args.self.now _ is c.deref.result.now c.deref.ensures.value c.args.letter
    (sym c.place_of_digit.ensures ∙ c.in_default.is) refl

pub returns-in_default-clause-damage : goal.returns-in_default-clause-damage
returns-in_default-clause-damage g c = λ d s is.
    still-alike g.V.View.meaning d s.windows _ c.args.self.now _ _ refl is (returns-in_default-clause-desk g c d s is)
