-- What the menu bar is of, and what it makes of an event.
use Rattle.std.specs.Prelude.{[], ◌∷◌, ℕ, ◌≡◌, List, Option, Some, None, option_map, ◌==◌, if◌then◌else◌}
use Rattle.tv_cells.specs.declared.rect.Point.{Point}
use Rattle.tv_event.specs.Commands.{cm_menu}
use Rattle.tv_event.specs.declared.event.Command.{Command}
use Rattle.tv_event.specs.declared.event.Event.{Event}
use Rattle.tv_event.specs.declared.event.Event.TheVariants as events
use Rattle.tv_event.specs.declared.event.Key.{Key}
use Rattle.tv_event.specs.declared.event.Key.TheVariants as keys
use Rattle.tv_model.specs.declared.desc.Desc.{Desc}
use Rattle.tv_model.specs.declared.desc.Menu.{Menu}
use Rattle.tv_machine.specs.State.{State, OpenMenu}
use Rattle.tv_machine.specs.Session.Commands.{do_command, open_first}
use Rattle.tv_machine.specs.Session.Menu.{open_menu, close_menu, title_of_letter, title_at, menu_key}
use Rattle.tv_machine.specs.Session.Menu.{menu_down}
use Rattle.tv_menu.specs.declared.bars.MenuBar.{MenuBar}
use Rattle.tv_menu.specs.declared.effect.Effect.{Effect}
use Rattle.tv_menu.specs.declared.effect.Effect.TheVariants as effects
use Rattle.tv_menu.specs.declared.effect.Place.{Place}
use Rattle.tv_menu.specs.declared.offered.Offered.{Offered}
use Rattle.tv_menu.specs.declared.offered.Offered.TheVariants as offers

-- ---- what the bar is of

-- it has the description's menus, and stands on a screen of its size
pub record IsBarOf (d : Desc) (bar : MenuBar) : Type 0 where
  pub menus : bar.menus ≡ d.menus
  pub width : bar.width ≡ d.width
  pub height : bar.height ≡ d.height

-- the machine's name for a menu and its item
abbrev pub seen_place : Place → OpenMenu
seen_place place = record { menu = place.menu; item = place.item }

-- the open menu
abbrev pub open_of : MenuBar → Option OpenMenu
open_of bar = option_map seen_place bar.open

-- ---- what it makes of an event

-- a menu opens, if there is one
abbrev pub opening : Option ℕ → State → Option State
opening None s = None
opening (Some menu) s = Some (open_menu menu s)

-- a key while no menu is open: Alt with a title's letter
abbrev pub closed_key : Desc → Key → State → Option State
closed_key d (keys.Alt ch) s = opening (title_of_letter d ch) s
closed_key d _ s = None

-- a key, by whether a menu is open
abbrev pub key_offered : Desc → Option OpenMenu → Key → State → Option State
key_offered d None k s = closed_key d k s
key_offered d (Some o) k s = Some (menu_key d o k s)

-- a mouse down, by whether a menu is open
abbrev pub down_offered : Desc → Option OpenMenu → Point → State → Option State
down_offered d None p s = opening (title_at d p) s
down_offered d (Some o) p s = Some (menu_down d o p s)

-- the first menu opens, if there is one
abbrev pub first_opened : List Menu → State → Option State
first_opened [] s = None
first_opened (menu ∷ menus) s = Some (open_first (menu ∷ menus) s)

-- a command: `menu` alone is the bar's
abbrev pub command_offered : Desc → Command → State → Option State
command_offered d c s = if c.0 == cm_menu then first_opened d.menus s else None

-- the state after the event, or nothing where the event is for another
abbrev pub bar_offer : Desc → Event → State → Option State
bar_offer d (events.Key k) s = key_offered d s.menu k s
bar_offer d (events.Down p) s = down_offered d s.menu p s
bar_offer d (events.Command c) s = command_offered d c s
bar_offer d (events.Move p) s = None
bar_offer d (events.Up p) s = None
bar_offer d (events.Broadcast c) s = None

-- ---- what its answers say

-- the state after an answer of a bar whose open menu is this now, or nothing where the event is for another
abbrev pub outcome : Desc → Offered → Option OpenMenu → State → Option State
outcome d offers.Left after s = None
outcome d offers.Taken after s = Some (record s { menu = after })
outcome d (offers.Turned c) after s = Some (do_command d c.0 (record s { menu = after }))

-- the same of what an event is to do to the bar
abbrev pub made : Desc → Effect → State → Option State
made d effects.Leaves s = None
made d effects.Stays s = Some s
made d (effects.Shows place) s = Some (record s { menu = Some (seen_place place) })
made d effects.Closes s = Some (close_menu s)
made d (effects.Chooses c) s = Some (do_command d c.0 (close_menu s))
