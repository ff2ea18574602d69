-- What windows damage.
use Rattle.std.specs.Ordering.{int_eq}
use Rattle.std.specs.Prelude.{ℕ, zero, suc, pos, ◌-◌, ◌==◌, nat_le, Bool, ◌&&◌, if◌then◌else◌, List, [], ◌∷◌, ◌++◌}
use Rattle.std.specs.Prelude.{Option, Some, None, find, position, slice_get}
use Rattle.tv_cells.specs.Damage.{Grows, with_shadow}
use Rattle.tv_cells.specs.Layers.{is_in}
use Rattle.tv_cells.specs.Picture.{Picture}
use Rattle.tv_cells.specs.Repainting.{AreAlike}
use Rattle.tv_cells.specs.declared.rect.Point.{Point}
use Rattle.tv_cells.specs.declared.rect.Rect.{Rect}
use Rattle.tv_model.specs.declared.desc.Desc.{Desc}
use Rattle.tv_model.specs.declared.node.Id.{Id}
use Rattle.tv_machine.specs.Screen.Layers.{stack_layers}
use Rattle.tv_machine.specs.Session.Dragging.{is_same_point}
use Rattle.tv_machine.specs.State.{OpenWindow}
use Rattle.tv_view.specs.Damage.{IsDrawnAlike}
use Rattle.tv_view.specs.Meaning.{Leaf}
use Rattle.tv_view.specs.declared.env.Env.{Env}
use Rattle.tv_window.specs.Window.{drawn_window, head_of, moved_to, window_bounds}
use Rattle.tv_window.specs.declared.desk.DeskOf.{DeskOf}
use Rattle.tv_window.specs.declared.window.WindowOf.{WindowOf}

-- ---- one window

-- it is drawn under one environment as under the other but in the damage; no point has left the damage, and
-- what came in lies in the smallest rectangle that holds the old ones and the window's
pub record WindowEnvDamages {V : Type 0} (look : V → Leaf) (old new : Env) (window : WindowOf V)
    (before after : List Rect) : Type 0 where
  pub drawn : IsDrawnAlike after (λ c. drawn_window look old c window) (λ c. drawn_window look new c window)
  pub grown : Grows (window_bounds window) before after

-- what shows otherwise where it moves to a corner: it with its shadow, where it stood and where it stands
-- then. Nothing where it stood there
abbrev pub dragged_rects : {V : Type 0} → WindowOf V → Point → List Rect
dragged_rects window corner =
    if is_same_point window.corner corner then []
    else with_shadow (window_bounds window) ++ with_shadow (window_bounds (moved_to corner window))

-- ---- the open windows

abbrev pub windows_of : {V : Type 0} → DeskOf V → List (WindowOf V)
windows_of desk = desk.windows.items.items

-- the rectangle of the front one
abbrev pub front_rects : {V : Type 0} → List (WindowOf V) → List Rect
front_rects [] = []
front_rects (front ∷ behind) = window_bounds front ∷ []

-- the rectangle of a window with its shadow, if there is a window
abbrev pub shadowed_rects : {V : Type 0} → Option (WindowOf V) → List Rect
shadowed_rects None = []
shadowed_rects (Some window) = with_shadow (window_bounds window)

-- what shows otherwise where the front one moves to a corner
abbrev pub dragged_front_rects : {V : Type 0} → List (WindowOf V) → Point → List Rect
dragged_front_rects [] corner = []
dragged_front_rects (front ∷ behind) corner = dragged_rects front corner

-- what shows otherwise where a window comes to the front: it with its shadow, and the one that was in front.
-- Nothing where it is in front
abbrev pub raised_rects : {V : Type 0} → List (WindowOf V) → ℕ → List Rect
raised_rects windows zero = []
raised_rects windows (suc place) = shadowed_rects (slice_get windows (suc place)) ++ front_rects windows

-- the same where no window may come there
abbrev pub moved_rects : {V : Type 0} → List (WindowOf V) → Option ℕ → List Rect
moved_rects windows None = []
moved_rects windows (Some place) = raised_rects windows place

-- what shows otherwise where the front one closes: it with its shadow, and the one that is in front then
abbrev pub closed_rects : {V : Type 0} → List (WindowOf V) → List Rect
closed_rects [] = []
closed_rects (front ∷ behind) = with_shadow (window_bounds front) ++ front_rects behind

-- what shows otherwise where a sheet is laid in the window of an id: the window, if there is one
abbrev pub laid_rects : {V : Type 0} → List (WindowOf V) → Id → List Rect
laid_rects windows i = bounds (find (λ window. (head_of window).id.0 == i.0) windows)
  where
    bounds : {V : Type 0} → Option (WindowOf V) → List Rect
    bounds None = []
    bounds (Some window) = window_bounds window ∷ []

-- the place of the window of a digit's number
abbrev pub digit_place : {V : Type 0} → List (WindowOf V) → ℕ → Option ℕ
digit_place windows digit =
    if nat_le 49 digit && nat_le digit 57
    then position (λ window. int_eq (head_of window).number (pos (digit - 48))) windows
    else None

-- the place of the topmost one at a point
abbrev pub point_place : {V : Type 0} → List (WindowOf V) → Point → Option ℕ
point_place windows p = position (λ window. is_in (window_bounds window) p.x p.y) windows

-- they show the same in each cell that the damage lacks, whether the front one is active or not
abbrev pub AreStacksAlike : Desc → List Rect → List OpenWindow → List OpenWindow → Type 0
AreStacksAlike d damage old new =
    (p : Picture) (is_active : Bool)
    → AreAlike p damage (stack_layers d is_active old) (stack_layers d is_active new)
