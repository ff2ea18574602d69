use Rattle.std.proofs.Common.{◌≡◌, ◌∙◌, ℕ, List, [], ◌++◌, ap, append_assoc, drop, sym}
use Rattle.std.proofs.lemmas.List.{drop_all}
use Rattle.tv_event.specs.declared.event.Event.{Event}
use Rattle.tv_io.proofs.PenLemmas.{Puts-along, Puts-then}
use Rattle.tv_ways.specs.Wording.{words_after}
use Rattle.tv_ways.proofs.WordingLemmas.{words_next}
use Rattle.tv_ways.proofs.wording.put_each.Goals as goal

pub loop-event-preserved : goal.loop-event-preserved
loop-event-preserved g c =
    let events = c.args.events.now in
    let so_far = c.loop-event.invariant in (
      _,
      Puts-then so_far.1 c.put_next.ensures,
      append_assoc so_far.0 _ _ ∙ ap (λ (t : List ℕ). so_far.0 ++ t) (sym (words_next c.args.separator.now events c.loop-event.event-index c.loop-event.before _ c.loop-event-test.true)) ∙ so_far.2,
    )

pub returns : goal.returns
returns g c =
    let events = c.args.events.now in
    let at = c.loop-event.event-index in
    let none : drop at events ≡ [] = drop_all at events c.loop-event-test.false in
    Puts-along (ap (λ (es : List Event). c.loop-event.invariant.0 ++ words_after c.args.separator.now c.loop-event.before es) (sym none) ∙ c.loop-event.invariant.2)
    (Puts-then c.loop-event.invariant.1 c.put_closing.ensures)
