use Rattle.std.proofs.Common.{refl, sym, ap, ◌∙◌, arith}
use Rattle.tv_window.specs.Damage.{point_place, windows_of}
use Rattle.tv_window.proofs.DeskDamageLemmas.{moved-alike, moved-within, still-alike}
use Rattle.tv_window.proofs.DeskLemmas.{done_by, down-behind, down-beside, down-hit, down-kept}
use Rattle.tv_window.proofs.desk.DeskOf.down.Goals as goal

pub returns-in_default-clause-done : goal.returns-in_default-clause-done
returns-in_default-clause-done g c = λ d s is done.
    down-kept g.V.View.meaning d s c.args.self.now _ is c.deref.result.now c.deref.ensures.value c.args.point (sym c.place_under.ensures ∙ c.in_default.is) refl

pub returns-then-place-gt0-clause-done : goal.returns-then-place-gt0-clause-done
returns-then-place-gt0-clause-done g c = λ d s is done.
    down-behind g.V.View.meaning d s c.args.self.now _ is c.deref.result.now c.deref.ensures.value c.args.point c.in-Some.place (sym c.place_under.ensures ∙ c.in-Some.is)
    c.if-place-gt0.true c.raise.ensures.windows

pub returns-in_default-clause-damage : goal.returns-in_default-clause-damage
returns-in_default-clause-damage g c = λ d s is done.
    still-alike g.V.View.meaning d s.windows _ c.args.self.now _ _ refl is (returns-in_default-clause-done g c d s is done).0

pub returns-then-place-gt0-clause-damage : goal.returns-then-place-gt0-clause-damage
returns-then-place-gt0-clause-damage g c = λ d s is done.
    moved-alike g.V.View.meaning d s.windows _ c.args.self.now _ c.in-Some.place _ c.raise.ensures.windows is (returns-then-place-gt0-clause-done g c d s is done).0 (c.raise.ensures.damage d s.windows is)

pub returns-then-place-gt0-clause-grown : goal.returns-then-place-gt0-clause-grown
returns-then-place-gt0-clause-grown g c =
    let windows = windows_of c.args.self.now in
    moved-within windows (point_place windows c.args.point) c.in-Some.place c.args.damage.now c.raise.new.damage
    (ap (λ seen. point_place seen c.args.point) (sym c.deref.ensures.value) ∙ (sym c.place_under.ensures ∙ c.in-Some.is)) c.raise.ensures.grown

pub returns-clause-mark : goal.returns-clause-mark
returns-clause-mark g c = λ d s is mark.
    down-hit g.V.View.meaning d s c.args.self.now c.args.self.now is c.deref.result.now c.deref.ensures.value c.args.point c.in-Some.place (sym c.place_under.ensures ∙ c.in-Some.is)
    (omega arith) c.index.result.now c.index.ensures c.hit_on.result c.hit_on.ensures.is
    ∙ ap (done_by d c.args.point s) mark

pub returns-clause-grip : goal.returns-clause-grip
returns-clause-grip g c = λ corner d s is grip.
    down-hit g.V.View.meaning d s c.args.self.now c.args.self.now is c.deref.result.now c.deref.ensures.value c.args.point c.in-Some.place (sym c.place_under.ensures ∙ c.in-Some.is)
    (omega arith) c.index.result.now c.index.ensures c.hit_on.result c.hit_on.ensures.is
    ∙ ap (done_by d c.args.point s) grip

pub returns-clause-done : goal.returns-clause-done
returns-clause-done g c = λ d s is done.
    down-beside g.V.View.meaning d s c.args.self.now _ is c.deref.result.now c.deref.ensures.value c.args.point c.in-Some.place (sym c.place_under.ensures ∙ c.in-Some.is)
    (omega arith) c.index.result.now c.index.ensures c.hit_on.result c.hit_on.ensures.is done refl

pub returns-clause-damage : goal.returns-clause-damage
returns-clause-damage g c = λ d s is done.
    still-alike g.V.View.meaning d s.windows _ c.args.self.now _ _ refl is (returns-clause-done g c d s is done).0
