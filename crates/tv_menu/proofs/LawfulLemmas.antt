-- Lawful items and menus: the first, and those behind it.
use Rattle.std.proofs.Common.{◌≡◌, ◌+◌, List, ◌∷◌, All, length, sym, arith}
use Rattle.std.proofs.lemmas.List.Elements.{All-head, All-rest, All-same}
use Rattle.tv_model.specs.declared.desc.Menu.{Menu}
use Rattle.tv_model.specs.declared.desc.MenuItem.{MenuItem}
use Rattle.tv_model.specs.declared.desc.StatusItem.{StatusItem}
use Rattle.tv_menu.specs.Lawful.{IsLawfulItem, IsLawfulMenu, IsLawfulStatusItem}

all_behind : {X : Type 0} (P : X → Type 0) (all behind : List X) (x : X) → all ≡ x ∷ behind → All P all → All P behind
all_behind P all behind x is each = All-rest P x behind all is each

one_ahead : {X : Type 0} (P : X → Type 0) (all behind : List X) (x : X) → all ≡ x ∷ behind → All P all → P x
one_ahead P all behind x is each = All-head P x behind (All-same P (x ∷ behind) all (sym is) each)

pub length_behind : {X : Type 0} (all behind : List X) (x : X) → all ≡ x ∷ behind → length all ≡ length behind + 1
length_behind all behind x is = rw is (omega arith)

pub items_behind : (all behind : List StatusItem) (item : StatusItem) → all ≡ item ∷ behind → All IsLawfulStatusItem all → All IsLawfulStatusItem behind
items_behind all behind item is each = all_behind IsLawfulStatusItem all behind item is each

pub item_ahead : (all behind : List StatusItem) (item : StatusItem) → all ≡ item ∷ behind → All IsLawfulStatusItem all → IsLawfulStatusItem item
item_ahead all behind item is each = one_ahead IsLawfulStatusItem all behind item is each

pub menus_behind : (all behind : List Menu) (menu : Menu) → all ≡ menu ∷ behind → All IsLawfulMenu all → All IsLawfulMenu behind
menus_behind all behind menu is each = all_behind IsLawfulMenu all behind menu is each

pub menu_ahead : (all behind : List Menu) (menu : Menu) → all ≡ menu ∷ behind → All IsLawfulMenu all → IsLawfulMenu menu
menu_ahead all behind menu is each = one_ahead IsLawfulMenu all behind menu is each

pub menu_items_behind : (all behind : List MenuItem) (item : MenuItem) → all ≡ item ∷ behind → All IsLawfulItem all → All IsLawfulItem behind
menu_items_behind all behind item is each = all_behind IsLawfulItem all behind item is each

pub menu_item_ahead : (all behind : List MenuItem) (item : MenuItem) → all ≡ item ∷ behind → All IsLawfulItem all → IsLawfulItem item
menu_item_ahead all behind item is each = one_ahead IsLawfulItem all behind item is each
