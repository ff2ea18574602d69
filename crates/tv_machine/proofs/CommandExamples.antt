-- What the machine does with a command that the program gives, shown by runs that another rule would change.
use Rattle.std.specs.Prelude.{[], ◌≡◌, None, pos}
use Rattle.std.proofs.Common.{refl}
use Rattle.tv_event.specs.declared.event.Event.{Event}
use Rattle.tv_event.specs.declared.event.Event.TheVariants as events
use Rattle.tv_event.specs.declared.event.Key.TheVariants as keys
use Rattle.tv_machine.specs.Run.{commanded, started, stepped}
use Rattle.tv_machine.proofs.Descriptions.{closed_dialog, hidden_input, shown_pane}

-- Alt-F, which opens a menu
abbrev alt_f : Event
alt_f = events.Key (keys.Alt 70)

-- a mouse down on the button of `hidden_input`
abbrev down_on_button : Event
down_on_button = events.Down (record { x = pos 15; y = pos 7 })

-- an open menu closes, and the command is done
menu_closes : (commanded (stepped (started closed_dialog) alt_f) (record { 0 = 120 })).state.menu ≡ None
menu_closes = refl

-- nothing is done while a button holds the mouse
held_takes_none : (commanded (stepped (started hidden_input) down_on_button) (record { 0 = 100 })).state.log ≡ []
held_takes_none = refl

-- nor where the command is disabled
disabled_is_dropped : (commanded (started shown_pane) (record { 0 = 10 })).state.log ≡ []
disabled_is_dropped = refl
