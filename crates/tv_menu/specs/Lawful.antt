-- What the menu bar and the status line may be made of: counts, texts and commands within the limits.
use Rattle.std.specs.Prelude.{◌≡◌, ◌≤◌, true, List, length, All, Some, ℤ, pos}
use Rattle.tv_model.specs.declared.desc.Menu.{Menu}
use Rattle.tv_model.specs.declared.desc.MenuItem.{MenuItem}
use Rattle.tv_model.specs.declared.desc.StatusItem.{StatusItem}
use Rattle.tv_model.specs.Description.LawfulNodes.{IsShort}
use Rattle.tv_model.specs.Description.Limits.{most_menu_items, most_menus, most_status_items}
use Rattle.tv_model.specs.Description.Numbers.{IsBetween}
use Rattle.tv_model.specs.Faults.Limits.{is_lawful_number}

-- columns and rows of the screen
pub record IsLawfulScreen (width height : ℤ) : Type 0 where
  pub columns : IsBetween (pos 20) (pos 132) width
  pub rows : IsBetween (pos 10) (pos 60) height

-- an item of a menu
pub record IsLawfulItem (item : MenuItem) : Type 0 where
  pub text : IsShort item.text.text
  pub command : is_lawful_number (Some item.command) ≡ true

-- a menu with its items
pub record IsLawfulMenu (menu : Menu) : Type 0 where
  pub title : IsShort menu.title.text
  pub count : length menu.items ≤ most_menu_items
  pub items : All IsLawfulItem menu.items

-- the menus of the bar
pub record AreLawfulMenus (menus : List Menu) : Type 0 where
  pub count : length menus ≤ most_menus
  pub each : All IsLawfulMenu menus

-- an item of the status line
pub record IsLawfulStatusItem (item : StatusItem) : Type 0 where
  pub text : IsShort item.text
  pub command : is_lawful_number (Some item.command) ≡ true

-- the items of the status line
pub record AreLawfulStatusItems (items : List StatusItem) : Type 0 where
  pub count : length items ≤ most_status_items
  pub each : All IsLawfulStatusItem items
