-- What the status line answers, by the item that was found.
use Rattle.std.proofs.Common.{◌≡◌, ◌+◌, ℕ, Bool, true, false, List, Option, Some, option_map, find, ℤ, pos, int_le, int_lt, ◌&&◌, ap, ◌∙◌, refl, arith}
use Rattle.tv_model.specs.declared.desc.Desc.{Desc}
use Rattle.tv_model.specs.declared.desc.StatusItem.{StatusItem}
use Rattle.tv_model.specs.Description.Numbers.{natural}
use Rattle.tv_machine.specs.State.{State}
use Rattle.tv_machine.specs.Screen.Bars.{Spot, spot_in, status_text, status_under}
use Rattle.tv_machine.specs.Session.Step.{is_item_enabled}
use Rattle.tv_menu.specs.declared.offered.Offered.{Offered}
use Rattle.tv_menu.specs.declared.offered.Offered.TheVariants as offers
use Rattle.tv_menu.specs.Line.{cell_answer, line_key, turned_by}

pub key_turned : (f : StatusItem → Bool) (xs ys : List StatusItem) (item : StatusItem) (answer : Offered)
    → Some item ≡ find f xs → xs ≡ ys → answer ≡ turned_by item → answer ≡ line_key (find f ys)
key_turned f xs ys item answer found same is = rw (← same, ← found) is

pub cell_turned : (d : Desc) (s : State) (found : Option StatusItem) (item : StatusItem) (answer : Offered)
    → Some item ≡ found → is_item_enabled d s item ≡ true → answer ≡ turned_by item → answer ≡ cell_answer d s found
cell_turned d s found item answer is enabled turned = rw (← is, enabled) turned

pub cell_taken : (d : Desc) (s : State) (found : Option StatusItem) (item : StatusItem)
    → Some item ≡ found → is_item_enabled d s item ≡ false → offers.Taken ≡ cell_answer d s found
cell_taken d s found item is disabled = rw (← is, disabled) refl

abbrev pub entry_of : Spot StatusItem → StatusItem
entry_of spot = spot.entry

pub item_found : (d : Desc) (column width : ℤ) (at : ℕ) (xs : List StatusItem) (found : Option (Spot StatusItem)) → xs ≡ d.status → width ≡ d.width → at ≡ natural column
    → (int_le (pos 0) column && int_lt column width) ≡ true → ((first : ℕ) → found ≡ spot_in status_text 0 first xs (first + at)) → option_map entry_of found ≡ status_under d column
item_found d column width at xs found same wide at-is inside is =
    let here : 0 + at ≡ natural column = omega (arith, at-is) in
    let first : found ≡ spot_in status_text 0 0 xs (natural column) = is 0 ∙ ap (spot_in status_text 0 0 xs) here in
    rw (← wide, inside, ← same, ← first) refl
