use Rattle.std.proofs.Common.{◌≡◌, ◌+◌, ◌++◌, ◌∷◌, [], length, rules, refl, sym, ap, subst, ◌∙◌, append_assoc, arith, length-append}
use Rattle.std.proofs.lemmas.List.{append-nil}
use Rattle.tv_io.proofs.PenLemmas.{Cuts-from_stopped, Takes-from_went_on}
use Rattle.tv_machine.specs.Output.{after, session_after}
use Rattle.tv_script.specs.Lines.{items_of_line}
use Rattle.tv_script.specs.Performed.{Stops}
use Rattle.tv_script.specs.ScriptLines.{items_left, line_meant}
use Rattle.tv_script.specs.Streams.{Performs}
use Rattle.tv_script.proofs.PerformLemmas.{performs_push, stops_push}
use Rattle.tv_script.proofs.performing.perform_line.Goals as goal

pub returns-then-pen-clause-performed : goal.returns-then-pen-clause-performed
returns-then-pen-clause-performed g c = λ s from items count performed.
    let before = c.loop-item.invariant in
    let so_far = before.performed s from items count performed in
    let done = before.done in
    let item = c.in-Some.item in
    let left = items_left c.next.new.self in
    let step : items_left c.loop-item.item-iterator ≡ item ∷ left = search rules in
    let parts : items ++ items_of_line (line_meant c.args.line.now) ≡ (items ++ done) ++ item ∷ left = ap (λ x. items ++ x) (sym before.parts ∙ ap (λ x. done ++ x) step) ∙ sym (append_assoc items done (item ∷ left)) in
    let number : c.loop-item.begun + 1 ≡ length (items ++ done) + 1 = omega (arith, before.begun, count, length-append items done) in (
      c.loop-item.begun + 1,
      refl,
      omega (arith, before.begun),
      subst (λ x. Stops s x (c.loop-item.begun + 1) from (g.W.Writer.seen c.put_item.new.pen.out.now) (g.S.Stage.stands c.put_item.new.stage)) (sym parts)
          (subst (λ n. Stops s ((items ++ done) ++ item ∷ left) n from (g.W.Writer.seen c.put_item.new.pen.out.now) (g.S.Stage.stands c.put_item.new.stage)) (sym number)
          (stops_push s (items ++ done) item (g.S.Stage.stands c.loop-item.stage) (g.S.Stage.stands c.put_item.new.stage) left so_far
          (Cuts-from_stopped before.going c.if-pen.true (c.put_item.ensures.text (after s (items ++ done)) so_far.left))
          (c.put_item.ensures.state (after s (items ++ done)) so_far.left))),
    )

pub loop-item-preserved : goal.loop-item-preserved
loop-item-preserved g c =
    let before = c.loop-item.invariant in
    let done = before.done in
    let item = c.in-Some.item in
    let left = items_left c.next.new.self in
    let step : items_left c.loop-item.item-iterator ≡ item ∷ left = search rules in
    record {
      going = c.if-pen.false;
      same = (c.put_item.ensures.text before.there.0 before.there.1).same ∙ before.same;
      there = (session_after before.there.0 item, c.put_item.ensures.state before.there.0 before.there.1);
      done = done ++ item ∷ [];
      parts = append_assoc done (item ∷ []) left ∙ ap (λ x. done ++ x) (sym step) ∙ before.parts;
      begun = omega (arith, before.begun, length-append done (item ∷ []));
      performed = λ s from items count performed.
          let so_far = before.performed s from items count performed in
          subst (λ x. Performs s x from (g.W.Writer.seen c.put_item.new.pen.out.now) (g.S.Stage.stands c.put_item.new.stage)) (append_assoc items done (item ∷ []))
          (performs_push s (items ++ done) item (g.S.Stage.stands c.loop-item.stage) (g.S.Stage.stands c.put_item.new.stage) so_far
          (Takes-from_went_on c.if-pen.false (c.put_item.ensures.text (after s (items ++ done)) so_far.left))
          (c.put_item.ensures.state (after s (items ++ done)) so_far.left));
    }

pub returns-clause-performed : goal.returns-clause-performed
returns-clause-performed g c = λ s from items count performed.
    let before = c.loop-item.invariant in
    let none : items_left c.loop-item.item-iterator ≡ [] = search rules in
    let all : before.done ≡ items_of_line (line_meant c.args.line.now) = sym (append-nil before.done) ∙ ap (λ x. before.done ++ x) (sym none) ∙ before.parts in
    subst (λ x. Performs s (items ++ x) from (g.W.Writer.seen c.loop-item.pen.out.now) (g.S.Stage.stands c.loop-item.stage)) all (before.performed s from items count performed)
