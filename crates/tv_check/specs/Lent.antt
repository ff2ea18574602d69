-- What lent values stand for.
use Rattle.std.specs.Prelude.{ℕ, ◌+◌, ℤ, pos, List, option_map}
use Rattle.tv_model.specs.Controls.Owner as owners
use Rattle.tv_model.specs.Description.Owners.{KeyOwner as SeenKeyOwner}
use Rattle.tv_model.specs.declared.desc.When.{When}
use Rattle.tv_check.specs.declared.owner.Owner.{Owner}
use Rattle.tv_check.specs.declared.owner.KeyOwner.{KeyOwner}
use Rattle.tv_check.specs.declared.owner.Shown.{Shown}
use Rattle.tv_check.specs.declared.acceptance_tabs.Tab.{Tab}

-- the number of the item at a place: items count from 1
abbrev pub item_number : ℕ → ℤ
item_number place = pos (place + 1)

-- what a letter acts on
abbrev pub lent_owner : Owner → owners.LetterOwner
lent_owner o = record { name = o.name.now; item = option_map item_number o.place }

-- an item of radio buttons
abbrev pub lent_when : Shown → When
lent_when shown = record { radios = shown.radios.now; item = shown.item }

-- what a letter acts on, and when
abbrev pub lent_key_owner : KeyOwner → SeenKeyOwner
lent_key_owner o = record { owner = lent_owner o.owner; when = option_map lent_when o.when }

-- the name of a dialog and that of a control
abbrev pub lent_tab : Tab → List ℕ × List ℕ
lent_tab tab = (tab.dialog.now, tab.control.now)
