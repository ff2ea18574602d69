-- What the menu bar and the status line damage.
use Rattle.std.specs.Prelude.{pos, ◌-ℤ◌, List, [], Option, Some, None, option_map}
use Rattle.tv_cells.specs.Damage.{with_shadow}
use Rattle.tv_cells.specs.declared.rect.Rect.{Rect}
use Rattle.tv_model.specs.declared.desc.Desc.{Desc}
use Rattle.tv_model.specs.Description.Rectangles.{rect}
use Rattle.tv_machine.specs.Screen.Bars.{box_of}
use Rattle.tv_machine.specs.State.{OpenMenu}
use Rattle.tv_menu.specs.Bar.{seen_place}
use Rattle.tv_menu.specs.declared.bars.MenuBar.{MenuBar}
use Rattle.tv_menu.specs.declared.bars.StatusLine.{StatusLine}
use Rattle.tv_menu.specs.declared.effect.Place.{Place}

-- the menu at a place
abbrev pub menu_seen : Option Place → Option OpenMenu
menu_seen place = option_map seen_place place

-- the box of an open menu, with its shadow
abbrev pub box_rects : Desc → Option OpenMenu → List Rect
box_rects d None = []
box_rects d (Some o) = with_shadow (box_of d o.menu)

-- the first row of the screen
abbrev pub bar_row : MenuBar → Rect
bar_row bar = rect (pos 0) (pos 0) bar.width (pos 1)

-- the last one
abbrev pub line_row : StatusLine → Rect
line_row line = rect (pos 0) (line.height -ℤ pos 1) line.width (pos 1)
