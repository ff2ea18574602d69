-- The cursor of the focused input, as a screen shows it.
use Rattle.std.specs.Prelude.{◌≡◌, ℕ, pos, Bool, true, false, ◌==◌, Option, Some, None}
use Rattle.tv_cells.specs.Glyph.{Glyph}
use Rattle.tv_cells.specs.Picture.{IsOn, Picture, cell_at}
use Rattle.tv_cells.specs.declared.rect.Point.{Point}
use Rattle.tv_palette.specs.Attributes.{attribute_of}
use Rattle.tv_palette.specs.declared.role.Role.TheVariants as roles
use Rattle.tv_palette.specs.declared.role.InputRole.TheVariants as input

-- a cell with the colours of an input's cursor, which no other role has
abbrev pub is_cursor : Glyph → Bool
is_cursor g = g.attr == attribute_of (roles.Input input.Cursor)

-- a point of the picture with such a cell
pub record IsCursorAt (p : Picture) (point : Point) : Type 0 where
  pub column : ℕ
  pub row : ℕ
  pub x : point.x ≡ pos column
  pub y : point.y ≡ pos row
  pub on : IsOn p column row
  pub shows : is_cursor (cell_at p column row) ≡ true

-- such a point, or none where there is no such cell
abbrev pub FindsCursor : Picture → Option Point → Type 0
FindsCursor p None = (column row : ℕ) → IsOn p column row → is_cursor (cell_at p column row) ≡ false
FindsCursor p (Some point) = IsCursorAt p point
