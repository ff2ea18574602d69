-- Where a terminal's cursor stands, it shows the session's.
use Rattle.std.proofs.Common.{◌≡◌, ℕ, true, false, Option, Some, None, refl, sym, ap, ◌∙◌, arith}
use Rattle.std.proofs.lemmas.Int.{ints}
use Rattle.std.specs.Int.{int_gap}
use Rattle.std.specs.Prelude.{pos}
use Rattle.tv_terminal.specs.Displays.{HasCursor}
use Rattle.tv_terminal.specs.Written.{cursor_on}
use Rattle.tv_terminal.specs.Terminal.{Display}
use Rattle.tv_cells.specs.Layers.{is_in}
use Rattle.tv_cells.specs.Picture.{IsOn, Picture, cell_at}
use Rattle.tv_cells.specs.Rectangle.{sized}
use Rattle.tv_cells.specs.declared.rect.Point.{Point}
use Rattle.tv_cells.proofs.DamageLemmas.{is_in-true}
use Rattle.tv_machine.specs.Output.{screen_cell}
use Rattle.tv_machine.specs.Run.{Session}
use Rattle.tv_play.specs.Cursor.{FindsCursor, IsCursorAt, is_cursor}
use Rattle.tv_play.specs.Shown.{IsScreenPlace, ShowsCursor}
use Rattle.tv_script.specs.Performed.{IsScreenOf}

gap-from-start : (n : ℕ) → int_gap (pos 0) (pos n) ≡ n
gap-from-start n = omega (arith, ints)

is-in : (p : Picture) (column row : ℕ) → IsOn p column row → is_in (sized p.width p.height) (pos column) (pos row) ≡ true
is-in p column row on = is_in-true (sized p.width p.height) (pos column) (pos row) (record { after_left = omega (arith, ints); before_right = omega (arith, ints, on.across); after_top = omega (arith, ints); before_bottom = omega (arith, ints, on.down) })

-- a point that was found is a place of the screen
cursor-place : (p : Picture) (point : Point) (at : IsCursorAt p point) → cursor_on p.width p.height (Some point) ≡ Some (at.column, at.row)
cursor-place p point at = rw (at.x, at.y, is-in p at.column at.row at.on, gap-from-start at.column, gap-from-start at.row) refl

module _ (s : Session) (screen : Picture) (is : IsScreenOf s screen) where
  on-picture : {column row : ℕ} → IsScreenPlace s column row → IsOn screen column row
  on-picture on = record { across = omega (arith, on.across, is.width); down = omega (arith, on.down, is.height) }

  on-session : {column row : ℕ} → IsOn screen column row → IsScreenPlace s column row
  on-session on = record { across = omega (arith, on.across, is.width); down = omega (arith, on.down, is.height) }

  same-cursor : (column row : ℕ) → IsOn screen column row → is_cursor (screen_cell s column row) ≡ is_cursor (cell_at screen column row)
  same-cursor column row on = sym (ap is_cursor (is.cells.each column row on))

  placed : (point : Point) (at : IsCursorAt screen point) (e : Display) → HasCursor (Some (at.column, at.row)) e → ShowsCursor s e
  placed point at e has = record {
    shown = λ shown. rw (has.1, has.2) (on-session at.on, same-cursor at.column at.row at.on ∙ at.shows);
    hidden = λ hidden. let clash : true ≡ false = sym has.0 ∙ hidden in absurd cc;
  }

  pub cursor-shown : (cursor : Option Point) → FindsCursor screen cursor → (e : Display) → HasCursor (cursor_on screen.width screen.height cursor) e → ShowsCursor s e
  cursor-shown None none e has = record {
    shown = λ shown. let clash : true ≡ false = sym shown ∙ has in absurd cc;
    hidden = λ hidden column row on. same-cursor column row (on-picture on) ∙ none column row (on-picture on);
  }
  cursor-shown (Some point) at e has = placed point at e (rw (cursor-place screen point at) at has)
