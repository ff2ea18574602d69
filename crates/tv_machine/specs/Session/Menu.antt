-- The menu bar: how a menu opens, and what keys and mouse downs do while one is open.
use Rattle.std.specs.Prelude.{[], ℕ, pos, List, length, position, Option, Some, None, slice_get, ◌+◌, ◌-◌}
use Rattle.std.specs.Prelude.{◌==◌, nat_le, if◌then◌else◌}
use Rattle.std.specs.Ordering.{int_eq}
use Rattle.tv_cells.specs.declared.rect.Point.{Point}
use Rattle.tv_event.specs.declared.event.Key.{Key}
use Rattle.tv_event.specs.declared.event.Key.TheVariants as keys
use Rattle.tv_model.specs.declared.desc.Desc.{Desc}
use Rattle.tv_model.specs.declared.desc.Menu.{Menu}
use Rattle.tv_model.specs.declared.desc.MenuItem.{MenuItem}
use Rattle.tv_model.specs.Description.Marks.{marks, upper}
use Rattle.tv_model.specs.Description.Commands.{command_number}
use Rattle.tv_machine.specs.State.{State, OpenMenu}
use Rattle.tv_machine.specs.Screen.Bars.{title_under, item_under}
use Rattle.tv_machine.specs.Session.Commands.{do_command}

-- ---- opening

-- the menu at a place opens with its first item
abbrev pub open_menu : ℕ → State → State
open_menu place s = record s { menu = Some (record { menu = place; item = 0 }) }

-- the menu closes
abbrev pub close_menu : State → State
close_menu s = record s { menu = None }

-- the menu whose title marks the letter
abbrev pub title_of_letter : Desc → ℕ → Option ℕ
title_of_letter d letter = position (λ menu. marks letter menu.title) d.menus

-- the menu whose title is under a point: titles stand in row 0
abbrev pub title_at : Desc → Point → Option ℕ
title_at d p = if int_eq p.y (pos 0) then title_under d p.x else None

-- ---- choosing

-- the items of the menu at a place
abbrev pub items_of_menu : Option Menu → List MenuItem
items_of_menu None = []
items_of_menu (Some menu) = menu.items

-- the items of the open menu
abbrev pub open_items : Desc → OpenMenu → List MenuItem
open_items d o = items_of_menu (slice_get d.menus o.menu)

-- an item is chosen: the menu closes, and then its command is handled
abbrev pub choose : Desc → Option MenuItem → State → State
choose d None s = s
choose d (Some item) s = do_command d (command_number item.command) (close_menu s)

-- the item at a place is chosen
abbrev pub choose_at : Desc → OpenMenu → Option ℕ → State → State
choose_at d o None s = s
choose_at d o (Some place) s = choose d (slice_get (open_items d o) place) s

-- the item whose text marks the letter
abbrev pub item_of_letter : List MenuItem → ℕ → Option ℕ
item_of_letter items letter = position (λ item. marks letter item.text) items

-- the place before one of so many, cyclically
abbrev pub place_before : ℕ → ℕ → ℕ
place_before count place = if place == 0 then count - 1 else place - 1

-- the place after it
abbrev pub place_after : ℕ → ℕ → ℕ
place_after count place = if nat_le count (place + 1) then 0 else place + 1

-- another item of the open menu is the current one
abbrev pub item_chosen : OpenMenu → ℕ → State → State
item_chosen o item s = record s { menu = Some (record o { item = item }) }

-- ---- while a menu is open

-- a key while a menu is open; what the menu has no use for does nothing
abbrev pub menu_key : Desc → OpenMenu → Key → State → State
menu_key d o keys.Left s = open_menu (place_before (length d.menus) o.menu) s
menu_key d o keys.Right s = open_menu (place_after (length d.menus) o.menu) s
menu_key d o keys.Up s = item_chosen o (place_before (length (open_items d o)) o.item) s
menu_key d o keys.Down s = item_chosen o (place_after (length (open_items d o)) o.item) s
menu_key d o keys.Enter s = choose_at d o (Some o.item) s
menu_key d o keys.Esc s = close_menu s
menu_key d o (keys.Char ch) s = choose_at d o (item_of_letter (open_items d o) (upper ch)) s
menu_key d o (keys.Alt letter) s = choose_at d o (item_of_letter (open_items d o) letter) s
menu_key d o _ s = s

-- a mouse down beside titles: on an item it chooses it, elsewhere it closes the menu
abbrev pub down_on_item : Desc → OpenMenu → Option ℕ → State → State
down_on_item d o None s = close_menu s
down_on_item d o (Some item) s = choose_at d o (Some item) s

-- a mouse down on a title opens its menu
abbrev pub down_on_title : Desc → OpenMenu → Point → Option ℕ → State → State
down_on_title d o p None s = down_on_item d o (item_under d o.menu p) s
down_on_title d o p (Some menu) s = open_menu menu s

-- a mouse down while a menu is open
abbrev pub menu_down : Desc → OpenMenu → Point → State → State
menu_down d o p s = down_on_title d o p (title_at d p) s
