-- What the status line is of, and what it answers to an event.
use Rattle.std.specs.Prelude.{ℕ, Bool, false, not, ◌≡◌, ◌<◌, List, slice_index_or, Option, Some, None, pos}
use Rattle.std.specs.Prelude.{if◌then◌else◌}
use Rattle.tv_cells.specs.Layers.{is_in}
use Rattle.tv_cells.specs.declared.rect.Point.{Point}
use Rattle.tv_event.specs.declared.event.Event.{Event}
use Rattle.tv_event.specs.declared.event.Event.TheVariants as events
use Rattle.tv_model.specs.declared.desc.Desc.{Desc}
use Rattle.tv_model.specs.declared.desc.StatusItem.{StatusItem}
use Rattle.tv_model.specs.Description.Commands.{command_number}
use Rattle.tv_model.specs.Description.Rectangles.{rect}
use Rattle.tv_machine.specs.State.{State}
use Rattle.tv_machine.specs.Screen.Bars.{status_under}
use Rattle.tv_machine.specs.Session.Enabled.{is_enabled_now}
use Rattle.tv_machine.specs.Session.Step.{is_item_enabled, is_status_row, status_item_of}
use Rattle.tv_menu.specs.declared.bars.StatusLine.{StatusLine}
use Rattle.tv_menu.specs.declared.offered.Offered.{Offered}
use Rattle.tv_menu.specs.declared.offered.Offered.TheVariants as offers

-- it has the description's items, and stands on a screen of its size
pub record IsStatusLineOf (d : Desc) (line : StatusLine) : Type 0 where
  pub items : line.items ≡ d.status
  pub width : line.width ≡ d.width
  pub height : line.height ≡ d.height

-- the set has exactly the commands that are enabled now
pub record AreEnabled (d : Desc) (s : State) (enabled : List Bool) : Type 0 where
  pub each : (number : ℕ) → number < 256 → slice_index_or enabled number false ≡ is_enabled_now d s number

-- the command of an item
abbrev pub turned_by : StatusItem → Offered
turned_by item = offers.Turned (record { 0 = command_number item.command })

-- a key, by the enabled item that has it
abbrev pub line_key : Option StatusItem → Offered
line_key None = offers.Left
line_key (Some item) = turned_by item

-- a mouse down on the last row, by the item that is there
abbrev pub cell_answer : Desc → State → Option StatusItem → Offered
cell_answer d s None = offers.Taken
cell_answer d s (Some item) = if is_item_enabled d s item then turned_by item else offers.Taken

-- a mouse down: off the screen it is no one's
abbrev pub line_down : Desc → State → Point → Offered
line_down d s p =
    if not (is_in (rect (pos 0) (pos 0) d.width d.height) p.x p.y) then offers.Taken
    else if is_status_row d p then cell_answer d s (status_under d p.x)
    else offers.Left

-- an event
abbrev pub line_answer : Desc → State → Event → Offered
line_answer d s (events.Key k) = line_key (status_item_of d s k)
line_answer d s (events.Down p) = line_down d s p
line_answer d s (events.Move p) = offers.Left
line_answer d s (events.Up p) = offers.Left
line_answer d s (events.Command c) = offers.Left
line_answer d s (events.Broadcast c) = offers.Left
