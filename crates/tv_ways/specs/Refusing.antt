-- Inputs that refuse an end while nobody sees them.
use Rattle.std.specs.Prelude.{◌≢◌, ℕ, List, Contains}
use Rattle.tv_event.specs.declared.event.Event.{Event}
use Rattle.tv_laws.specs.Runs.{state_after}
use Rattle.tv_machine.specs.State.{State}
use Rattle.tv_model.specs.declared.desc.Desc.{Desc}
use Rattle.tv_model.specs.declared.log.LogLine.TheVariants as lines
use Rattle.tv_model.specs.declared.node.Id.{Id}
use Rattle.tv_reach.specs.Goals.{IsOpenAt}
use Rattle.tv_ways.specs.Wording.{AreSayable}

-- the dialog at the place is open, the input has just refused, and another control has the focus: an input that refuses an
-- end gets the focus, unless it is hidden
pub record IsRefusedAt (d : Desc) (place : ℕ) (i : Id) (s : State) : Type 0 where
  pub at : IsOpenAt d place s
  pub logged : Contains s.log (lines.Invalid i)
  pub elsewhere : at.«open».focus ≢ i

-- it is so after these events, which a script can say
abbrev pub IsRefused : Desc → ℕ → Id → List Event → Type 0
IsRefused d place i events = IsRefusedAt d place i (state_after d events) × AreSayable d events
