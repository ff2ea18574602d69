-- Which events views may take, what a dialog posts, and what the machine's dialog comes to.
use Rattle.std.specs.Prelude.{◌≡◌, ◌≤◌, ◌⊎◌, ℕ, Bool, true, false, List, [], ◌∷◌, length, IsTrue, None}
use Rattle.std.specs.Prelude.{is_some}
use Rattle.tv_cells.specs.declared.rect.Point.{Point}
use Rattle.tv_event.specs.Commands.{cm_default}
use Rattle.tv_event.specs.declared.event.Command.{Command}
use Rattle.tv_event.specs.declared.event.Event.{Event}
use Rattle.tv_event.specs.declared.event.Event.TheVariants as events
use Rattle.tv_event.specs.declared.event.Key.{Key}
use Rattle.tv_event.specs.declared.event.Key.TheVariants as keys
use Rattle.tv_event.specs.declared.event.Phase.{Phase}
use Rattle.tv_event.specs.declared.event.Phase.TheVariants as phases
use Rattle.tv_model.specs.declared.desc.Dialog.{Dialog}
use Rattle.tv_model.specs.declared.log.LogLine.TheVariants as lines
use Rattle.tv_view.specs.Meaning.{Leaf}
use Rattle.tv_view.specs.Reactions.{calling_letter}
use Rattle.tv_model.specs.Description.Marks.{upper}
use Rattle.tv_machine.specs.Dialog.Ending.{command}
use Rattle.tv_machine.specs.Dialog.Focus.{is_free_at}
use Rattle.tv_machine.specs.Dialog.Keys.{enter_target, key, press_enabled}
use Rattle.tv_machine.specs.Dialog.Modal.{Modal, with_line}
use Rattle.tv_machine.specs.Dialog.Mouse.{down_at, topmost_leaf}
use Rattle.tv_machine.specs.Dialog.Shortcuts.{HaveOneMarker}
use Rattle.tv_machine.specs.Dialog.Step.{dialog_step}
use Rattle.tv_view.specs.declared.reaction.Reaction.{Reaction}
use Rattle.tv_view.specs.declared.reaction.Reaction.TheVariants as reactions
use Rattle.tv_group.specs.Ready.{HoldsLeaf, IsPointOf, is_own}
use Rattle.tv_dialog.specs.Standing.{Stands}
use Rattle.tv_group.specs.TreeTurns.{reacted}
use Rattle.tv_dialog.specs.declared.dialog.DialogOf.{DialogOf}

-- ---- who may take an event

-- a key calls a view that marks a letter: with Alt before the current view has its turn, and by itself after
-- that. The current view may take any key
abbrev pub may_call : Key → Phase → Bool
may_call k phases.Pre = is_some (calling_letter phases.Pre k)
may_call k phases.Focused = true
may_call k phases.Post = is_some (calling_letter phases.Post k)

-- a view may take the event in the phase
abbrev pub may_take : Event → Phase → Bool
may_take (events.Key k) p = may_call k p
may_take _ p = true

-- ---- what is posted

-- what a view's answer posts: a pressed button its command
abbrev pub posted_by : Reaction → List Event
posted_by reactions.Pass = []
posted_by reactions.Done = []
posted_by (reactions.Focus i) = []
posted_by (reactions.FocusPress i item) = []
posted_by (reactions.Post i c) = events.Command c ∷ []
posted_by (reactions.Changed i) = []
posted_by (reactions.Capture i) = []
posted_by reactions.Release = []

-- nothing waits, or a command alone
abbrev pub IsPosted : List Event → Type 0
IsPosted waiting = (waiting ≡ []) ⊎ ((c : Command) × (waiting ≡ events.Command c ∷ []))

-- what may wait after an event: after a command nothing
abbrev pub PostedAfter : Event → List Event → Type 0
PostedAfter (events.Command c) waiting = waiting ≡ []
PostedAfter (events.Key k) waiting = IsPosted waiting
PostedAfter (events.Down p) waiting = IsPosted waiting
PostedAfter (events.Up p) waiting = IsPosted waiting
PostedAfter (events.Move p) waiting = IsPosted waiting
PostedAfter (events.Broadcast c) waiting = IsPosted waiting

-- ---- what the machine's dialog comes to

-- after what a view answered, before a command that it posted
abbrev pub reacted_first : Dialog → Reaction → Modal → Modal
reacted_first d reactions.Pass m = m
reacted_first d reactions.Done m = m
reacted_first d (reactions.Focus i) m = reacted d (reactions.Focus i) m
reacted_first d (reactions.FocusPress i item) m = reacted d (reactions.FocusPress i item) m
reacted_first d (reactions.Post i c) m = with_line (lines.Press i) m
reacted_first d (reactions.Changed i) m = m
reacted_first d (reactions.Capture i) m = m
reacted_first d reactions.Release m = m

-- after an event of those that are posted
abbrev pub turned : Dialog → Event → Modal → Modal
turned d (events.Key k) m = key d k m
turned d (events.Down p) m = down_at d (topmost_leaf d m p) p m
turned d (events.Up p) m = dialog_step d (events.Up p) m
turned d (events.Move p) m = dialog_step d (events.Move p) m
turned d (events.Command c) m = command d c.0 m
turned d (events.Broadcast c) m = press_enabled d (enter_target d m) m

-- the dialog stands so that this comes of the command that waits
pub record Awaits {V : Type 0} (look : V → Leaf) (d : Dialog) (target : Modal) (c : Command)
    (dialog : DialogOf V) : Type 0 where
  pub now : Modal
  pub stands : Stands look d now.leaves now dialog
  pub short : length now.log ≤ 1
  pub comes : command d c.0 now ≡ target

-- the dialog stands so once it has handled what waits
abbrev pub SettlesTo : {V : Type 0} → (V → Leaf) → Dialog → Modal → DialogOf V → Type 0
SettlesTo look d target dialog =
    ((dialog.pending ≡ []) × Stands look d target.leaves target dialog)
    ⊎ ((c : Command) × ((dialog.pending ≡ events.Command c ∷ []) × Awaits look d target c dialog))

-- ---- what a posted event may rely on

-- it goes on, and nothing was logged
pub record IsFresh (m : Modal) : Type 0 where
  pub log : m.log ≡ []
  pub ended : m.ended ≡ None

pub record IsReadyForKey (d : Dialog) (m : Modal) (k : Key) : Type 0 where
  pub fresh : IsFresh m
  -- it isn't one that the dialog keeps for itself
  pub other : is_own k ≡ false
  pub free : is_free_at d m.leaves m.focus ≡ true
  -- no letter has two visible markers, of which the first would take it
  pub markers : HaveOneMarker d m.leaves
  -- Alt comes with a capital letter or a digit
  pub capital : (letter : ℕ) → k ≡ keys.Alt letter → upper letter ≡ letter

pub record IsReadyForDown (m : Modal) (p : Point) : Type 0 where
  pub fresh : IsFresh m
  pub at : IsPointOf p
  pub free : m.held ≡ None

-- moves and ups come while a leaf holds the mouse
pub record IsReadyForHeld (d : Dialog) (m : Modal) (p : Point) : Type 0 where
  pub fresh : IsFresh m
  pub at : IsPointOf p
  pub held : IsTrue (is_some m.held)
  pub leaf : HoldsLeaf d m

-- an event that goes to every view
abbrev pub IsReadyForAll : Dialog → Modal → Event → Type 0
IsReadyForAll d m (events.Key k) = ⊥
IsReadyForAll d m (events.Down p) = ⊥
IsReadyForAll d m (events.Up p) = IsReadyForHeld d m p
IsReadyForAll d m (events.Move p) = IsReadyForHeld d m p
IsReadyForAll d m (events.Command c) = ⊥
IsReadyForAll d m (events.Broadcast c) = IsFresh m × (c.0 ≡ cm_default)

abbrev pub IsReadyFor : Dialog → Modal → Event → Type 0
IsReadyFor d m (events.Key k) = IsReadyForKey d m k
IsReadyFor d m (events.Down p) = IsReadyForDown m p
IsReadyFor d m (events.Up p) = IsReadyForHeld d m p
IsReadyFor d m (events.Move p) = IsReadyForHeld d m p
IsReadyFor d m (events.Command c) = length m.log ≤ 1
IsReadyFor d m (events.Broadcast c) = IsFresh m × (c.0 ≡ cm_default)
