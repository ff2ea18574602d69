use Rattle.std.proofs.Common.{List, subst}
use Rattle.tv_event.specs.declared.event.Event.{Event}
use Rattle.tv_ways.specs.Running.{ran}
use Rattle.tv_ways.specs.Wording.{AreSayable}
use Rattle.tv_ways.proofs.answering.confirmed.Goals as goal
use Rattle.tv_ways.proofs.answering.confirmed.Goals.{then-is_found, else-is_found}

pub returns : goal.returns
returns c =
    elim c.if-is_found.branch [
      | then-is_found w ↦
          rw w.result-is
          (λ d runs.
          let found = c.is_found.ensures w.if-is_found.true (ran d c.in_ok-events.events) (c.in_ok-events.ensures d runs) in
          (found.0, subst (λ (events : List Event). AreSayable d events) c.as_slice.ensures found.1))
      | else-is_found w ↦ rw w.result-is tt
    ]
