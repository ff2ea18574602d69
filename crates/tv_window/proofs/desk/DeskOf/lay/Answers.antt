use Rattle.std.proofs.Common.{ap, refl, sym, subst, map, slice_set, ◌∙◌}
use Rattle.tv_machine.specs.Session.Laid.{laid_in_window}
use Rattle.tv_window.specs.Damage.{AreStacksAlike, windows_of}
use Rattle.tv_window.specs.Desk.{IsDesk}
use Rattle.tv_window.proofs.DeskDamageLemmas.{still-alike}
use Rattle.tv_window.proofs.LaidLemmas.{laid-alike, laid-desk, laid-within, unlaid}
use Rattle.tv_window.proofs.desk.DeskOf.lay.Goals as goal

pub returns-in-Some-clause-desk : goal.returns-in-Some-clause-desk
returns-in-Some-clause-desk g c = λ d stack is.
    let desk = c.args.self.now in
    let w = c.index_mut-window.result.now in
    laid-desk c.args.id c.args.sheet g.V.View.meaning d desk _ c.deref.result.now c.deref.ensures.value c.in-Some.place (sym c.place_of_id.ensures ∙ c.in-Some.is) w w
    c.index_mut-window.ensures.value stack is (ap (slice_set (windows_of desk) c.in-Some.place) c.lay_sheet.ensures.laid)

pub returns-in-Some-clause-damage : goal.returns-in-Some-clause-damage
returns-in-Some-clause-damage g c = λ d stack is.
    let desk = c.args.self.now in
    let w = c.index_mut-window.result.now in
    laid-alike c.args.id c.args.sheet g.V.View.meaning d desk desk c.deref.result.now c.deref.ensures.value c.in-Some.place (sym c.place_of_id.ensures ∙ c.in-Some.is) w w
    c.index_mut-window.ensures.value stack c.lay_sheet.new.damage is c.lay_sheet.ensures.all

pub returns-in-Some-clause-grown : goal.returns-in-Some-clause-grown
returns-in-Some-clause-grown g c =
    let desk = c.args.self.now in
    let w = c.index_mut-window.result.now in
    laid-within c.args.id c.args.sheet desk c.deref.result.now c.deref.ensures.value c.in-Some.place (sym c.place_of_id.ensures ∙ c.in-Some.is) w w
    c.index_mut-window.ensures.value c.args.damage.now c.lay_sheet.new.damage c.lay_sheet.ensures.all c.lay_sheet.ensures.grown

pub returns-in_default-clause-desk : goal.returns-in_default-clause-desk
returns-in_default-clause-desk g c = λ d stack is.
    subst (λ xs. IsDesk g.V.View.meaning d xs c.args.self.now)
    (sym (unlaid c.args.id c.args.sheet g.V.View.meaning d c.args.self.now c.args.self.now c.deref.result.now c.deref.ensures.value (sym c.place_of_id.ensures ∙ c.in_default.is) stack is)) is

pub returns-in_default-clause-damage : goal.returns-in_default-clause-damage
returns-in_default-clause-damage g c = λ d stack is.
    still-alike g.V.View.meaning d stack _ c.args.self.now _ _ refl is (returns-in_default-clause-desk g c d stack is)
