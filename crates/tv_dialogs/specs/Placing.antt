-- Where the open dialog stands.
use Rattle.std.specs.Prelude.{Option, Some, None, option_map, slice_get}
use Rattle.tv_cells.specs.declared.rect.Rect.{Rect}
use Rattle.tv_model.specs.declared.desc.Desc.{Desc}
use Rattle.tv_machine.specs.State.{OpenDialog}
use Rattle.tv_group.specs.Shown.{open_bounds}

-- its rectangle on the screen, if one is open
abbrev pub bounds_of_open : Desc → Option OpenDialog → Option Rect
bounds_of_open d None = None
bounds_of_open d (Some o) = option_map (open_bounds o) (slice_get d.dialogs o.place)
