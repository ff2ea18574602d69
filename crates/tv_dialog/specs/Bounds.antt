-- Where a dialog stands.
use Rattle.std.specs.Prelude.{List, ◌++◌}
use Rattle.tv_cells.specs.Damage.{with_shadow}
use Rattle.tv_cells.specs.declared.rect.Rect.{Rect}
use Rattle.tv_model.specs.Description.Rectangles.{rect}
use Rattle.tv_dialog.specs.declared.dialog.DialogOf.{DialogOf}

-- a dialog's rectangle, seen from the corner of the desktop's canvas
abbrev pub dialog_bounds : {V : Type 0} → DialogOf V → Rect
dialog_bounds dialog = rect dialog.corner.x dialog.corner.y dialog.head.w dialog.head.h

-- what shows otherwise where it moves: the dialog with its shadow, as it was and as it is then
abbrev pub moved_dialog_rects : {V : Type 0} → (old new : DialogOf V) → List Rect
moved_dialog_rects old new = with_shadow (dialog_bounds old) ++ with_shadow (dialog_bounds new)
