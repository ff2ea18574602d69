-- The menu bar, the box of an open menu and the status line: where they are, and what they show. Menus and
-- the items of a menu
-- count from 0.
use Rattle.std.specs.Prelude.{ℕ, Bool, true, false, ◌&&◌, ◌||◌, List, [], ◌∷◌, length, map, max, take}
use Rattle.std.specs.Prelude.{Option, Some, None, option_map, unwrap_or, slice_get, ℤ, pos, ◌+ℤ◌, ◌-ℤ◌}
use Rattle.std.specs.Prelude.{int_le, int_lt, ◌+◌, ◌-◌, ◌==◌, nat_lt, if◌then◌else◌}
use Rattle.std.specs.List.{reduce, sum}
use Rattle.tv_cells.specs.Glyph.{Glyph, glyph, shown}
use Rattle.tv_cells.specs.Layers.{is_in}
use Rattle.tv_cells.specs.Rectangle.{sized}
use Rattle.tv_cells.specs.declared.rect.Point.{Point}
use Rattle.tv_cells.specs.declared.rect.Rect.{Rect}
use Rattle.tv_model.specs.declared.desc.Desc.{Desc}
use Rattle.tv_model.specs.declared.desc.Menu.{Menu}
use Rattle.tv_model.specs.declared.desc.MenuItem.{MenuItem}
use Rattle.tv_model.specs.declared.desc.StatusItem.{StatusItem}
use Rattle.tv_model.specs.declared.kind.MarkedText.{MarkedText}
use Rattle.tv_model.specs.Description.Numbers.{natural}
use Rattle.tv_model.specs.Description.Rectangles.{rect, desktop}
use Rattle.tv_model.specs.Screen.Faces.{FaceOf, text_row, border, is_side}
use Rattle.tv_palette.specs.Attributes.{attribute_of}
use Rattle.tv_palette.specs.declared.role.Role.TheVariants as roles
use Rattle.tv_palette.specs.declared.role.BarRole.{BarRole}
use Rattle.tv_palette.specs.declared.role.BarRole.TheVariants as bar
use Rattle.tv_palette.specs.declared.role.StatusRole.{StatusRole}
use Rattle.tv_palette.specs.declared.role.StatusRole.TheVariants as status
use Rattle.tv_model.specs.Controls.Look.{is_mark_from}

-- ---- texts side by side

-- the columns of a text: it and a space at both sides
abbrev pub columns_of : List ℕ → ℕ
columns_of text = length text + 2

-- a column of a bar: what stands there, its place in the bar, and the column seen from the space before its
-- text
pub record Spot (Entry : Type 0) : Type 0 where
  pub entry : Entry
  pub place : ℕ
  pub column : ℕ

-- what stands in a column, where the first of these has the place and begins in the column `first`
abbrev pub spot_in : {Entry : Type 0} → (Entry → List ℕ) → ℕ → ℕ → List Entry → ℕ → Option (Spot Entry)
spot_in text place first [] column = None
spot_in text place first (entry ∷ entries) column =
    if nat_lt column first then None
    else if nat_lt column (first + columns_of (text entry))
    then Some (record { entry = entry; place = place; column = column - first })
    else spot_in text (place + 1) (first + columns_of (text entry)) entries column

-- the text of a menu in the bar
abbrev pub title_of : Menu → List ℕ
title_of menu = menu.title.text

-- the text of an item of the status line
abbrev pub status_text : StatusItem → List ℕ
status_text item = item.text

-- the menu in a column of the bar, where titles begin in column 1
abbrev pub title_spot : Desc → ℕ → Option (Spot Menu)
title_spot d column = spot_in title_of 0 1 d.menus column

-- the item in a column of the status line
abbrev pub status_spot : Desc → ℕ → Option (Spot StatusItem)
status_spot d column = spot_in status_text 0 0 d.status column

-- what stands in a column that the screen has
abbrev pub on_screen : {Entry : Type 0} → Desc → (ℕ → Option (Spot Entry)) → ℤ → Option (Spot Entry)
on_screen d spot column =
    if int_le (pos 0) column && int_lt column d.width then spot (natural column) else None

-- the menu whose title's cells have the column
abbrev pub title_under : Desc → ℤ → Option ℕ
title_under d column = option_map (λ spot. spot.place) (on_screen d (title_spot d) column)

-- the item of the status line whose cells have the column
abbrev pub status_under : Desc → ℤ → Option StatusItem
status_under d column = option_map (λ spot. spot.entry) (on_screen d (status_spot d) column)

-- ---- the box of a menu

-- the text of an item of a menu
abbrev pub menu_item_text : MenuItem → List ℕ
menu_item_text item = item.text.text

-- as wide as the longest item, with a side and a space at both ends
abbrev pub box_width : Menu → ℕ
box_width menu = unwrap_or (reduce max (map (λ item. length (menu_item_text item)) menu.items)) 0 + 4

-- a row for each item, between two edges
abbrev pub box_height : Menu → ℕ
box_height menu = length menu.items + 2

-- the first column of the title at a place
abbrev pub title_column : Desc → ℕ → ℕ
title_column d place = 1 + sum (map (λ menu. columns_of (title_of menu)) (take place d.menus))

-- the box of a menu that stands in the bar at a column; no box without one
abbrev pub box_at : ℕ → Option Menu → Rect
box_at column None = sized 0 0
box_at column (Some menu) = rect (pos column) (pos 1) (pos (box_width menu)) (pos (box_height menu))

-- the box of the menu at a place, without its shadow: below its title, whether the screen has room for it or
-- not
abbrev pub box_of : Desc → ℕ → Rect
box_of d place = box_at (title_column d place) (slice_get d.menus place)

-- a rectangle without its edge
abbrev pub without_edge : Rect → Rect
without_edge r = record {
  a = record { x = r.a.x +ℤ pos 1; y = r.a.y +ℤ pos 1 };
  b = record { x = r.b.x -ℤ pos 1; y = r.b.y -ℤ pos 1 };
}

-- the item of the menu at a place, where the point is in its row between the sides of the box, on the desktop
abbrev pub item_under : Desc → ℕ → Point → Option ℕ
item_under d place p =
    if is_in (desktop d) p.x p.y
    && is_in (without_edge (box_of d place)) p.x p.y
    then Some (natural (p.y -ℤ (box_of d place).a.y -ℤ pos 1))
    else None

-- ---- the faces of the bar and the box

-- the role of a cell by whether its title or item is the open or the current one, and whether its letter is
-- marked
abbrev pub bar_role : (is_selected is_at_letter : Bool) → BarRole
bar_role false false = bar.Normal
bar_role false true = bar.Letter
bar_role true false = bar.Selected
bar_role true true = bar.SelectedLetter

-- a character in the attribute of its role
abbrev pub bar_cell : ℕ → BarRole → Glyph
bar_cell ch role = shown ch (attribute_of (roles.Bar role))

-- a text with a space at both sides, by columns from the first of them on
abbrev pub marked_cell : Bool → MarkedText → ℕ → Glyph
marked_cell is_selected text column =
    bar_cell (text_row (32 ∷ text.text) column) (bar_role is_selected (is_mark_from 1 text.mark column))

-- whether a menu is open, and it is the one at the place
abbrev pub is_place : Option ℕ → ℕ → Bool
is_place None place = false
is_place (Some other) place = other == place

-- a column of the bar
abbrev pub title_cell : Option ℕ → Option (Spot Menu) → Glyph
title_cell place None = glyph 32 (attribute_of (roles.Bar bar.Normal))
title_cell place (Some spot) = marked_cell (is_place place spot.place) spot.entry.title spot.column

-- the bar, where the menu at a place may be open
abbrev pub bar_face : Desc → Option ℕ → FaceOf
bar_face d place x y = title_cell place (title_spot d x)

-- a row of the box between its sides
abbrev pub item_cell : Bool → Option MenuItem → ℕ → Glyph
item_cell is_current None column = bar_cell 32 bar.Normal
item_cell is_current (Some item) column = marked_cell is_current item.text column

-- the box of a menu with its current item
abbrev pub box_face : Menu → ℕ → FaceOf
box_face menu current x y =
    if (y == 0) || (y + 1 == box_height menu) then bar_cell (border false (box_width menu) x) bar.Normal
    else if is_side (box_width menu) x then bar_cell 124 bar.Normal
    else item_cell (y - 1 == current) (slice_get menu.items (y - 1)) (x - 1)

-- ---- the face of the status line

-- the role of an item by whether it is enabled
abbrev pub status_role : Bool → StatusRole
status_role is_enabled = if is_enabled then status.Normal else status.Disabled

-- a column of the status line
abbrev pub status_cell : (StatusItem → Bool) → Option (Spot StatusItem) → Glyph
status_cell is_enabled None = glyph 32 (attribute_of (roles.Status status.Normal))
status_cell is_enabled (Some spot) =
    shown (text_row (32 ∷ spot.entry.text) spot.column)
    (attribute_of (roles.Status (status_role (is_enabled spot.entry))))

-- the status line, where some items may be disabled
abbrev pub status_face : Desc → (StatusItem → Bool) → FaceOf
status_face d is_enabled x y = status_cell is_enabled (status_spot d x)
