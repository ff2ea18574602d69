-- What stands in a column of the bar or of the status line, as the machine names it.
use Rattle.std.specs.Prelude.{ℕ, Option, option_map}
use Rattle.tv_model.specs.declared.desc.Menu.{Menu}
use Rattle.tv_model.specs.declared.desc.StatusItem.{StatusItem}
use Rattle.tv_machine.specs.Screen.Bars.{Spot}
use Rattle.tv_menu.specs.declared.spot.Spot.{Spot as Found}

abbrev pub seen_spot : Option Found → Option (Spot StatusItem)
seen_spot found =
    option_map (λ spot. record { entry = spot.entry.now; place = spot.place; column = spot.column }) found

-- the place of a menu that stands there
abbrev pub menu_place : Spot Menu → ℕ
menu_place spot = spot.place
