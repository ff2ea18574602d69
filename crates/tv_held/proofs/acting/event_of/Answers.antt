use Rattle.std.proofs.Common.{◌∙◌, ap, arith, inr, refl, sym, to_z, w32}
use Rattle.tv_held.proofs.ActingLemmas.{line-on-screen, none-read, other-read, refused-by, size-is, sole-given}
use Rattle.tv_held.specs.Acting.{sole_event}
use Rattle.tv_script.specs.Scripts.{SpellsAScript}
use Rattle.tv_held.proofs.acting.event_of.Goals as goal

pub returns-in-Err-clause-refused : goal.returns-in-Err-clause-refused
returns-in-Err-clause-refused c =
    let width = to_z w32 c.width.result in
    let height = to_z w32 c.height.result in
    let line = c.args.line.now in
    refused-by c.args.app.now line width height c.refusal.result
    (λ s runs. size-is s.desc.width c.width.result (c.width.ensures.is ∙ (c.screen-screen.ensures s runs).width) (omega (arith, c.width.ensures.small.0)) c.width.ensures.small.1)
    (λ s runs. size-is s.desc.height c.height.result (c.height.ensures.is ∙ (c.screen-screen.ensures s runs).height) (omega (arith, c.height.ensures.small.0)) (omega (arith, c.height.ensures.small.1)))
    (rw c.refusal.ensures (none-read (SpellsAScript width height line) c.parse.result c.parse.ensures.only c.in-Err.fault c.in-Err.is))

pub returns-in-Some-clause-near : goal.returns-in-Some-clause-near
returns-in-Some-clause-near c = sole-given c.items.result.now c.in-Some.event c.items.ensures.shown (sym c.sole_event.ensures ∙ c.in-Some.is)

pub returns-clause-refused : goal.returns-clause-refused
returns-clause-refused c =
    let width = to_z w32 c.width.result in
    let height = to_z w32 c.height.result in
    let line = c.args.line.now in
    inr (
      refl,
      λ s runs e has.
          let on = c.screen-screen.ensures s runs in
          other-read (SpellsAScript width height line) c.parse.result c.parse.ensures.only c.in-Ok.script c.in-Ok.is
          (ap sole_event (sym c.items.ensures.items) ∙ sym c.sole_event.ensures ∙ c.in-None.is) e
          (line-on-screen s line e width height
          (size-is s.desc.width c.width.result (c.width.ensures.is ∙ on.width) (omega (arith, c.width.ensures.small.0)) c.width.ensures.small.1)
          (size-is s.desc.height c.height.result (c.height.ensures.is ∙ on.height) (omega (arith, c.height.ensures.small.0)) (omega (arith, c.height.ensures.small.1))) has),
    )
