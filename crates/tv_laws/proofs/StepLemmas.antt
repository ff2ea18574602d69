-- Every event keeps an open dialog as it must be.
use Rattle.std.proofs.Common.{◌≡◌, Some}
use Rattle.tv_event.specs.declared.event.Event.{Event}
use Rattle.tv_event.specs.declared.event.Event.TheVariants as events
use Rattle.tv_model.specs.declared.desc.Dialog.{Dialog}
use Rattle.tv_machine.specs.State.{Held}
use Rattle.tv_machine.specs.Dialog.Modal.{Modal, leaf_at}
use Rattle.tv_machine.specs.Dialog.Mouse.{held_moved}
use Rattle.tv_machine.specs.Dialog.Step.{free_step, held_step, step_by}
use Rattle.tv_laws.specs.Ends.{IsDone, IsOpen}
use Rattle.tv_laws.specs.Sound.{IsSoundDialog}
use Rattle.tv_laws.specs.Steps.{RespectsHold, StaysFit}
use Rattle.tv_laws.proofs.EndLemmas.{command-done}
use Rattle.tv_laws.proofs.FreeLemmas.{IsFree, free-done, open-done}
use Rattle.tv_laws.proofs.KeyLemmas.{key-done}
use Rattle.tv_machine.proofs.ListLemmas.{option_cases}
use Rattle.tv_laws.proofs.MouseLemmas.{down-done, move-open, up-done}

module _ (d : Dialog) (sound : IsSoundDialog d) where
  free_done : (e : Event) (m : Modal) → IsFree d m → IsDone d (free_step d e m)
  free_done (events.Key k) m f = key-done d sound k m f
  free_done (events.Down p) m f = down-done d sound p m f
  free_done (events.Move p) m f = free-done d m f
  free_done (events.Up p) m f = free-done d m f
  free_done (events.Command c) m f = command-done d sound c.0 m f
  free_done (events.Broadcast c) m f = free-done d m f

  held_done : (held : Held) (e : Event) (m : Modal) → m.held ≡ Some held → IsOpen d m → RespectsHold (Some held) e
      → IsDone d (held_step d held e m)
  held_done held (events.Key k) m is o given = open-done d m o
  held_done held (events.Down p) m is o given = open-done d m o
  held_done held (events.Move p) m is o given = open-done d (held_moved d (leaf_at d held.id) p m) (move-open d sound held.id p m o)
  held_done held (events.Up p) m is o given = up-done d sound held p m is o
  held_done held (events.Command c) m is o given = absurd given
  held_done held (events.Broadcast c) m is o given = open-done d m o

  pub stays-fit : StaysFit d
  stays-fit m e o =
      option_cases m.held (λ held. RespectsHold held e → IsDone d (step_by d held e m))
      (λ none given. free_done e m (record { fit = o.fit; log = o.log; going = o.going; idle = none })) (λ held some given. held_done held e m some o given)
