-- What a row of the bar, of a menu's box or of the status line shows: texts behind a space, over what was
-- there.
use Rattle.std.specs.Prelude.{◌≡◌, ℕ, ◌+◌, ◌-◌, ◌<◌, Bool, false, List, ◌∷◌, length, nat_lt, slice_index_or}
use Rattle.std.specs.Prelude.{Option, Some, None, if◌then◌else◌}
use Rattle.tv_cells.specs.Glyph.{Glyph, blank, shown}
use Rattle.tv_model.specs.declared.desc.Menu.{Menu}
use Rattle.tv_model.specs.declared.desc.StatusItem.{StatusItem}
use Rattle.tv_model.specs.Description.Commands.{command_number}
use Rattle.tv_model.specs.Screen.Faces.{text_row}
use Rattle.tv_machine.specs.Screen.Bars.{Spot, marked_cell, is_place, status_cell}
use Rattle.tv_model.specs.Controls.Look.{is_mark_from}
use Rattle.tv_menu.specs.declared.spaced_text.SpacedText.{SpacedText}

-- each cell of a row, the first of which stands in a column, becomes f of what it was
pub record ChangesRow (f : ℕ → Glyph → Glyph) (from : ℕ) (old new : List Glyph) : Type 0 where
  pub count : length new ≡ length old
  pub each : (i : ℕ) → i < length new → slice_index_or new i blank ≡ f (from + i) (slice_index_or old i blank)

-- a column of a text, from the space before it on
abbrev pub spaced_cell : SpacedText → ℕ → Glyph
spaced_cell text column =
    shown (text_row (32 ∷ text.text.now) column)
    (if is_mark_from 1 text.mark column then text.letter else text.rest)

-- so many columns from one on, over what was there
abbrev pub over_columns : ℕ → ℕ → (ℕ → Glyph) → ℕ → Glyph → Glyph
over_columns first count cell column under =
    if nat_lt column first then under
    else if nat_lt column (first + count) then cell (column - first) else under

-- what stands in a column, over what was there
abbrev pub over_spot : {Entry : Type 0} → (Spot Entry → Glyph) → Option (Spot Entry) → Glyph → Glyph
over_spot cell None under = under
over_spot cell (Some spot) under = cell spot

-- a column of a title, where the menu at a place may be open
abbrev pub title_over : Option ℕ → Spot Menu → Glyph
title_over opened spot = marked_cell (is_place opened spot.place) spot.entry.title spot.column

-- an item is enabled while the set has its command
abbrev pub is_item_in : List Bool → StatusItem → Bool
is_item_in enabled item = slice_index_or enabled (command_number item.command) false

-- a column of an item of the status line
abbrev pub item_over : List Bool → Spot StatusItem → Glyph
item_over enabled spot = status_cell (is_item_in enabled) (Some spot)
