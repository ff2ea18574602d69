-- The points of a script are those of its screen.
use Rattle.std.proofs.Common.{◌≡◌, ℕ, ℤ, pos, ◌≤ℤ◌, ◌<ℤ◌, int_le, int_lt, true, List, [], ◌∷◌, map, All, IsTrue, sym, subst, arith}
use Rattle.std.specs.List.{AllByRecursion}
use Rattle.std.proofs.lemmas.Bool.{and_parts}
use Rattle.std.proofs.lemmas.Int.{ints}
use Rattle.std.proofs.lemmas.List.Elements.{All-append, All-cons, All-nil}
use Rattle.tv_cells.specs.declared.rect.Point.{Point}
use Rattle.tv_event.specs.declared.event.Event.TheVariants as events
use Rattle.tv_machine.specs.declared.script.Item.{Item}
use Rattle.tv_machine.specs.declared.script.Item.TheVariants as items
use Rattle.tv_script.specs.Line.{Line}
use Rattle.tv_script.specs.Line as lines
use Rattle.tv_script.specs.Lines.{IsItemOnScreen, IsPointOnScreen, is_on_screen, is_point_within, is_on_axis, items_of, items_of_line, item_typed}
use Rattle.tv_script.specs.Scripts.{SpellsAScript}
use Rattle.tv_valid.proofs.DecidingLemmas.{int_le_decides, int_lt_decides}

single : (item : Item) → IsItemOnScreen item → All IsItemOnScreen (item ∷ [])
single item is = All-cons IsItemOnScreen item [] is (All-nil IsItemOnScreen)

all_typed : (text : List ℕ) → All IsItemOnScreen (map item_typed text)
all_typed [] = All-nil IsItemOnScreen
all_typed (ch ∷ text) = All-cons IsItemOnScreen (item_typed ch) (map item_typed text) tt (all_typed text)

within : (size most at : ℤ) → size ≤ℤ most → is_on_axis size at ≡ true → (pos 0 ≤ℤ at) × (at <ℤ most)
within size most at fits is =
    let both = and_parts (int_le (pos 0) at) (int_lt at size) is in
    let low = (int_le_decides (pos 0) at).0 both.0 in
    let high = (int_lt_decides at size).0 both.1 in
    (low, omega (arith, ints, fits, high))

module _ (width height : ℤ) (columns : width ≤ℤ pos 132) (rows : height ≤ℤ pos 60) where
  shown_point : (p : Point) → is_point_within width height p ≡ true → IsPointOnScreen p
  shown_point p is =
      let both = and_parts (is_on_axis width p.x) (is_on_axis height p.y) is in
      record { column = within width (pos 132) p.x columns both.0; row = within height (pos 60) p.y rows both.1 }

  pub shown_line : (l : Line) → IsTrue (is_on_screen width height l) → All IsItemOnScreen (items_of_line l)
  shown_line (lines.Key key) is = single (items.Event (events.Key key)) tt
  shown_line (lines.Typed text) is = all_typed text
  shown_line (lines.Down p) is = single (items.Event (events.Down p)) (shown_point p is)
  shown_line (lines.Move p) is = single (items.Event (events.Move p)) (shown_point p is)
  shown_line (lines.Up p) is = single (items.Event (events.Up p)) (shown_point p is)
  shown_line lines.Shot is = single items.Shot tt
  shown_line lines.Colors is = single items.Colors tt

  shown_lines : (ls : List Line) → AllByRecursion (λ l. IsTrue (is_on_screen width height l)) ls → All IsItemOnScreen (items_of ls)
  shown_lines [] shown = All-nil IsItemOnScreen
  shown_lines (l ∷ ls) shown = All-append IsItemOnScreen (items_of_line l) (items_of ls) (shown_line l shown.0) (shown_lines ls shown.1)

  -- the items of a script for a screen that isn't too large
  pub shown_items : (text : List ℕ) (script : List Item) → SpellsAScript width height text script → All IsItemOnScreen script
  shown_items text script spelled = subst (All IsItemOnScreen) (sym spelled.are) (shown_lines spelled.lines spelled.spelled.can.0.1)
