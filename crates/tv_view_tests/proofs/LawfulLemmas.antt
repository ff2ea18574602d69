-- Lawful items and menus, one before the others.
use Rattle.std.proofs.Common.{◌≡◌, List, ◌∷◌, All}
use Rattle.std.proofs.lemmas.List.Elements.{All-cons, All-same}
use Rattle.tv_model.specs.declared.desc.Menu.{Menu}
use Rattle.tv_model.specs.declared.desc.MenuItem.{MenuItem}
use Rattle.tv_model.specs.declared.desc.StatusItem.{StatusItem}
use Rattle.tv_menu.specs.Lawful.{IsLawfulItem, IsLawfulMenu, IsLawfulStatusItem}

one_before : {X : Type 0} (P : X → Type 0) (all behind : List X) (x : X) → all ≡ x ∷ behind → P x → All P behind → All P all
one_before P all behind x is first each = All-same P all (x ∷ behind) is (All-cons P x behind first each)

pub items_lawful : (all behind : List MenuItem) (item : MenuItem) → all ≡ item ∷ behind → IsLawfulItem item → All IsLawfulItem behind → All IsLawfulItem all
items_lawful all behind item is first each = one_before IsLawfulItem all behind item is first each

pub menus_lawful : (all behind : List Menu) (menu : Menu) → all ≡ menu ∷ behind → IsLawfulMenu menu → All IsLawfulMenu behind → All IsLawfulMenu all
menus_lawful all behind menu is first each = one_before IsLawfulMenu all behind menu is first each

pub status_items_lawful : (all behind : List StatusItem) (item : StatusItem) → all ≡ item ∷ behind → IsLawfulStatusItem item → All IsLawfulStatusItem behind → All IsLawfulStatusItem all
status_items_lawful all behind item is first each = one_before IsLawfulStatusItem all behind item is first each
