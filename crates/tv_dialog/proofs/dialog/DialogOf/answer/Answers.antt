use Rattle.std.proofs.Common.{arith, ◌≡◌, ◌∷◌, ◌++◌, [], ◌∙◌, Some, is_some, refl, ap, sym, subst}
use Rattle.tv_group.specs.Calls.{any_holds}
use Rattle.tv_dialog.specs.Standing.{Stands}
use Rattle.tv_dialog.specs.Stepping.{posted, begun_anew}
use Rattle.tv_dialog.proofs.StandsLemmas.{stands-started}
use Rattle.tv_dialog.proofs.SteppingLemmas.{none-stays, none-walks, posted-comes}
use Rattle.tv_group.proofs.Tree.Mouse.TakenLemmas.{any-holds}
use Rattle.tv_dialog.proofs.dialog.DialogOf.answer.Goals as goal

pub returns-in-Some-clause-stands : goal.returns-in-Some-clause-stands
returns-in-Some-clause-stands g c d m lawful views handed leaf focus markers s =
    let old = c.args.self.now in
    let e = c.args.event.now in
    let n = begun_anew m in
    let held : c.args.is_held ≡ is_some m.held = c.requires.held ∙ (ap any_holds s.tree ∙ any-holds d m.leaves m leaf) in
    let one : posted (is_some m.held) e ≡ Some c.in-Some.event = ap (λ b. posted b e) (sym held) ∙ sym c.in-Some.ensures in
    let comes = posted-comes d n (record { log = refl; ended = refl }) focus markers leaf e c.in-Some.event handed one in
    let waits : c.post.new.self ≡ c.in-Some.event ∷ [] = c.post.ensures ∙ ap (λ es. es ++ c.in-Some.event ∷ []) c.clear-2.ensures in
    let before = stands-started g.V.View.meaning d m old (record old { log = c.clear.new.self; pending = c.post.new.self })
    (record { head = refl; plan = refl; «open» = refl; ended = refl; ruled = refl; marks = refl }) refl refl c.clear.ensures c.requires.going s in
    subst (λ k. Stands g.V.View.meaning d k.leaves k c.settle.new.self) comes.1 (c.settle.ensures.stands d n c.in-Some.event lawful views comes.0 waits before)

pub returns-then-not-is_held-clause-stands : goal.returns-then-not-is_held-clause-stands
returns-then-not-is_held-clause-stands g c d m lawful views handed leaf focus markers s =
    let old = c.args.self.now in
    let e = c.args.event.now in
    let n = begun_anew m in
    let held : c.args.is_held ≡ is_some m.held = c.requires.held ∙ (ap any_holds s.tree ∙ any-holds d m.leaves m leaf) in
    let before = stands-started g.V.View.meaning d m old (record old { log = c.clear.new.self; pending = c.clear-2.new.self })
    (record { head = refl; plan = refl; «open» = refl; ended = refl; ruled = refl; marks = refl }) refl refl c.clear.ensures c.requires.going s in
    subst (λ k. Stands g.V.View.meaning d k.leaves k c.walk.new.self) (none-walks d n e c.args.is_held held c.if-not-is_held.true (sym c.in-None.ensures))
    (c.walk.ensures.stands d n lawful (omega arith) before)

pub returns-else-not-is_held-clause-stands : goal.returns-else-not-is_held-clause-stands
returns-else-not-is_held-clause-stands g c d m lawful views handed leaf focus markers s =
    let old = c.args.self.now in
    let e = c.args.event.now in
    let n = begun_anew m in
    let held : c.args.is_held ≡ is_some m.held = c.requires.held ∙ (ap any_holds s.tree ∙ any-holds d m.leaves m leaf) in
    let before = stands-started g.V.View.meaning d m old (record old { log = c.clear.new.self; pending = c.clear-2.new.self })
    (record { head = refl; plan = refl; «open» = refl; ended = refl; ruled = refl; marks = refl }) refl refl c.clear.ensures c.requires.going s in
    subst (λ k. Stands g.V.View.meaning d k.leaves k (record old { log = c.clear.new.self; pending = c.clear-2.new.self })) (none-stays d n e c.args.is_held held c.if-not-is_held.false (sym c.in-None.ensures))
    before
