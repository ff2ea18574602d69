-- The order of Tab: that of a sound certificate, round and round.
use Rattle.std.specs.Prelude.{◌≡◌, ◌≢◌, ◌<◌, ℕ, zero, suc, true, false, [], List, ◌∷◌, ◌++◌, map, filter}
use Rattle.std.specs.Prelude.{filter_map, length, reverse, Option, Some, None, IsSome, IsTrue, All, AllPairs}
use Rattle.tv_event.specs.declared.event.Event.TheVariants as events
use Rattle.tv_event.specs.declared.event.Key.{Key}
use Rattle.tv_event.specs.declared.event.Key.TheVariants as keys
use Rattle.tv_model.specs.declared.node.Id.{Id}
use Rattle.tv_model.specs.declared.desc.Dialog.{Dialog}
use Rattle.tv_model.specs.declared.log.LogLine.TheVariants as lines
use Rattle.tv_model.specs.declared.record.Value.{Value}
use Rattle.tv_model.specs.Description.Certificates.{control_name, tabs_of}
use Rattle.tv_machine.specs.State.{LeafState}
use Rattle.tv_machine.specs.Leaves.{PlacedNode}
use Rattle.tv_machine.specs.Dialog.Focus.{Stop, keeps_focus, next_free, previous_free, request, stops_of}
use Rattle.tv_machine.specs.Dialog.Modal.{Modal, leaf_at, with_line}
use Rattle.tv_machine.specs.Dialog.Step.{dialog_step}
use Rattle.tv_laws.specs.Fit.{IsFitModal}

-- ---- the order

-- the name of a leaf, if it is a control
abbrev pub control_named : Option PlacedNode → Option (List ℕ)
control_named None = None
control_named (Some leaf) = control_name leaf.node.kind

-- the name of the control at a stop, if there is one
abbrev pub stop_name : Dialog → Stop → Option (List ℕ)
stop_name d stop = control_named (leaf_at d stop.id)

-- whatever the leaves hold, the controls among the stops are those of the dialog's `tab` lines, in that order
abbrev pub StopsAreTabs : Dialog → Type 0
StopsAreTabs d = (leaves : List LeafState) → filter_map (stop_name d) (stops_of d leaves) ≡ tabs_of d

-- and no other stop is free
abbrev pub FreeAreControls : Dialog → Type 0
FreeAreControls d =
    (leaves : List LeafState)
    → All (λ stop. IsTrue stop.is_free → IsSome (stop_name d stop)) (stops_of d leaves)

-- ---- one key

-- Shift-Tab asks for the focus of the previous free control
abbrev pub ShiftTabAsksPrevious : Dialog → Type 0
ShiftTabAsksPrevious d =
    (m : Modal) → m.held ≡ None
    → dialog_step d (events.Key keys.ShiftTab) m ≡ request d (previous_free (stops_of d m.leaves) m.focus) m

-- an input that keeps the focus when a key asks for that of another control is logged as invalid, and nothing
-- else changes
abbrev pub KeepsFocus : Dialog → Key → Id → Modal → Type 0
KeepsFocus d k to m = to ≢ m.focus → dialog_step d (events.Key k) m ≡ with_line (lines.Invalid m.focus) m

-- so it is with Tab and Shift-Tab
abbrev pub RefusalStays : Dialog → Type 0
RefusalStays d =
    (m : Modal) → IsFitModal d m → m.held ≡ None → keeps_focus m (leaf_at d m.focus) ≡ true
    → KeepsFocus d keys.Tab (next_free (stops_of d m.leaves) m.focus) m
    × KeepsFocus d keys.ShiftTab (previous_free (stops_of d m.leaves) m.focus) m

-- the values of leaves, in description order
abbrev pub values_of : List LeafState → List (Option Value)
values_of leaves = map (λ leaf. leaf.value) leaves

-- the key leaves every value as it was
abbrev pub KeepsValues : Dialog → Key → Type 0
KeepsValues d k =
    (m : Modal) → IsFitModal d m → m.held ≡ None
    → values_of (dialog_step d (events.Key k) m).leaves ≡ values_of m.leaves

-- so it is with Tab and Shift-Tab
abbrev pub TabKeepsValues : Dialog → Type 0
TabKeepsValues d = KeepsValues d keys.Tab × KeepsValues d keys.ShiftTab

-- ---- round and round

-- the free ones among stops, in order
abbrev pub free_among : List Stop → List Id
free_among stops = map (λ stop. stop.id) (filter (λ stop. stop.is_free) stops)

-- the free controls of a dialog, in order
abbrev pub free_controls : Dialog → List LeafState → List Id
free_controls d leaves = free_among (stops_of d leaves)

-- what has the focus after the first press of a key, after the second and so on, for so many of them
abbrev pub foci : Dialog → Key → ℕ → Modal → List Id
foci d k zero m = []
foci d k (suc n) m = (dialog_step d (events.Key k) m).focus ∷ foci d k n (dialog_step d (events.Key k) m)

-- no free control is an input that keeps the focus
abbrev pub LetsGo : Dialog → Modal → Type 0
LetsGo d m = All (λ i. keeps_focus m (leaf_at d i) ≡ false) (free_controls d m.leaves)

-- the focus stands among the free controls, of which none stands twice. As many Tabs as there are of them go
-- to those after
-- it, then to those before it, and last to itself; as many Shift-Tabs go the other way
pub record IsRound (d : Dialog) (m : Modal) : Type 0 where
  pub before : List Id
  pub after : List Id
  pub order : free_controls d m.leaves ≡ before ++ m.focus ∷ after
  pub once : AllPairs (λ i later. i.0 < later.0) (free_controls d m.leaves)
  pub tabs : foci d keys.Tab (length (free_controls d m.leaves)) m ≡ after ++ before ++ m.focus ∷ []
  pub shift_tabs : foci d keys.ShiftTab (length (free_controls d m.leaves)) m
      ≡ reverse before ++ reverse after ++ m.focus ∷ []

-- Tab reaches each free control once before it comes back, and so does Shift-Tab
abbrev pub TabGoesRound : Dialog → Type 0
TabGoesRound d = (m : Modal) → IsFitModal d m → m.held ≡ None → LetsGo d m → IsRound d m
