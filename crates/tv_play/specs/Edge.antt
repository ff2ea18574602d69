-- The edge of the screen, beyond which a terminal may have room.
use Rattle.std.specs.Prelude.{ℤ, pos, ◌-◌, int_lt, if◌then◌else◌}
use Rattle.tv_cells.specs.declared.rect.Point.{Point}
use Rattle.tv_event.specs.declared.event.Event.{Event}
use Rattle.tv_event.specs.declared.event.Event.TheVariants as events
use Rattle.tv_model.specs.Description.Numbers.{natural}
use Rattle.tv_model.specs.declared.desc.Desc.{Desc}
use Rattle.tv_script.specs.Lines.{is_point_within}

-- a column or a row of so many: one behind the last becomes the last
abbrev pub nearest : (size at : ℤ) → ℤ
nearest size at = if int_lt at size then at else pos (natural size - 1)

-- the nearest point of the screen
abbrev pub nearest_point : Desc → Point → Point
nearest_point d p = record { x = nearest d.width p.x; y = nearest d.height p.y }

-- the top left cell
abbrev pub top_left : Point
top_left = record { x = pos 0; y = pos 0 }

-- the point where the button goes down
abbrev pub pressed_point : Desc → Point → Point
pressed_point d p = if is_point_within d.width d.height p then p else top_left

-- What the mouse does beside the screen, as a script can say it: it moves or goes up at the nearest point, and
-- goes down in the corner, where nothing but a menu heeds it
abbrev pub brought : Desc → Event → Event
brought d (events.Down p) = events.Down (pressed_point d p)
brought d (events.Move p) = events.Move (nearest_point d p)
brought d (events.Up p) = events.Up (nearest_point d p)
brought d event = event
