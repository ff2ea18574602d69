-- What the faces of the bar, of a box and of the status line show.
use Rattle.std.proofs.Common.{◌≡◌, ℕ, ◌+◌, ◌-◌, Bool, false, List, [], ◌∷◌, All, Option, Some, None, nat_lt, if◌then◌else◌, refl, ap}
use Rattle.std.proofs.lemmas.List.Elements.{All-cons, All-head, All-nil, All-tail}
use Rattle.tv_cells.specs.Glyph.{Glyph, glyph}
use Rattle.tv_model.specs.declared.desc.Desc.{Desc}
use Rattle.tv_model.specs.declared.desc.StatusItem.{StatusItem}
use Rattle.tv_model.specs.Description.Commands.{command_number}
use Rattle.tv_palette.specs.Attributes.{attribute_of}
use Rattle.tv_palette.specs.declared.role.Role.TheVariants as roles
use Rattle.tv_palette.specs.declared.role.StatusRole.TheVariants as status
use Rattle.tv_machine.specs.State.{State}
use Rattle.tv_machine.specs.Screen.Bars.{Spot, columns_of, spot_in, status_cell, status_text}
use Rattle.tv_machine.specs.Session.Step.{is_item_enabled}
use Rattle.tv_machine.proofs.ListLemmas.{bool_cases}
use Rattle.tv_menu.specs.Cells.{is_item_in, item_over, over_spot}
use Rattle.tv_menu.specs.Lawful.{IsLawfulStatusItem}
use Rattle.tv_menu.specs.Line.{AreEnabled}
use Rattle.tv_menu.proofs.CommandLemmas.{small_command}

-- nothing but spaces behind the last item
pub item_shown : (enabled : List Bool) (spot : Option (Spot StatusItem)) → over_spot (item_over enabled) spot (glyph 32 (attribute_of (roles.Status status.Normal))) ≡ status_cell (is_item_in enabled) spot
item_shown enabled None = refl
item_shown enabled (Some spot) = refl

-- ---- a status line shows the same where the same of its items are enabled

pub items_same : (f g : StatusItem → Bool) (place first column : ℕ) (items : List StatusItem) → All (λ item. f item ≡ g item) items
    → status_cell f (spot_in status_text place first items column) ≡ status_cell g (spot_in status_text place first items column)
items_same f g place first column [] all = refl
items_same f g place first column (item ∷ items) all =
    bool_cases (nat_lt column first)
    (λ b. status_cell f (spot b (inside_of item)) ≡ status_cell g (spot b (inside_of item)))
    (λ before. refl)
    (λ behind. bool_cases (inside_of item)
    (λ b. status_cell f (spot false b) ≡ status_cell g (spot false b))
    (λ inside. ap (λ is_enabled. here is_enabled) (All-head (λ x. f x ≡ g x) item items all))
    (λ outside. items_same f g (place + 1) (first + columns_of item.text) column items (All-tail (λ x. f x ≡ g x) item items all)))
  where
    inside_of : StatusItem → Bool
    inside_of x = nat_lt column (first + columns_of x.text)

    spot : Bool → Bool → Option (Spot StatusItem)
    spot before inside =
        if before then None
        else if inside then Some (record { entry = item; place = place; column = column - first })
        else spot_in status_text (place + 1) (first + columns_of item.text) items column

    here : Bool → Glyph
    here is_enabled = status_cell (λ x. is_enabled) (Some (record { entry = item; place = place; column = column - first }))

-- the set that has what is enabled now
pub enabled_same : (d : Desc) (s : State) (enabled : List Bool) → AreEnabled d s enabled → (items : List StatusItem) → All IsLawfulStatusItem items
    → All (λ item. is_item_in enabled item ≡ is_item_enabled d s item) items
enabled_same d s enabled are items lawful = each items lawful
  where
    each : (xs : List StatusItem) → All IsLawfulStatusItem xs → All (λ item. is_item_in enabled item ≡ is_item_enabled d s item) xs
    each [] all = All-nil (λ item. is_item_in enabled item ≡ is_item_enabled d s item)
    each (x ∷ xs) all =
        All-cons (λ item. is_item_in enabled item ≡ is_item_enabled d s item) x xs
        (are.each (command_number x.command) (small_command x.command (All-head IsLawfulStatusItem x xs all).command))
        (each xs (All-tail IsLawfulStatusItem x xs all))
