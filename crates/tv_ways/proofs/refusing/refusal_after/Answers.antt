use Rattle.std.proofs.Common.{List, ap, subst, sym, ◌∙◌}
use Rattle.tv_event.specs.declared.event.Event.{Event}
use Rattle.tv_model.specs.declared.desc.Desc.{Desc}
use Rattle.tv_ways.specs.Running.{ran}
use Rattle.tv_ways.specs.Wording.{AreSayable}
use Rattle.tv_ways.proofs.refusing.refusal_after.Goals as goal
use Rattle.tv_ways.proofs.refusing.refusal_after.Goals.{then-are_sayable, else-are_sayable}

pub returns : goal.returns
returns c =
    elim c.if-are_sayable.branch [
      | then-are_sayable w ↦
          rw w.result-is
          (λ d runs.
          let at = c.in_ok-events.ensures d runs in
          let said = c.are_sayable.ensures w.if-are_sayable.true in (
            c.in-Some.ensures (ran d c.in_ok-events.events) at,
            subst (λ (events : List Event). AreSayable d events) c.as_slice.ensures
                (subst (λ (e : Desc). AreSayable e c.as_slice.result.now) (c.desc.ensures (ran d c.in_ok-events.events) at) said),
          ))
      | else-are_sayable w ↦ rw w.result-is tt
    ]
