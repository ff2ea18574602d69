-- The open windows of a run, and what a description has to have so that its windows can stand so.
use Rattle.std.specs.Prelude.{◌≡◌, ◌≢◌, ◌==◌, Bool, true, false, All, List, [], ◌∷◌, find, Option, Some, None, IfSome, option_map, if◌then◌else◌}
use Rattle.std.specs.Option.{option_and_then}
use Rattle.std.specs.List.{AllPairs, AllZip}
use Rattle.tv_cells.specs.declared.rect.Point.{Point}
use Rattle.tv_cells.specs.declared.rect.Rect.{Rect}
use Rattle.tv_view.specs.Meaning.{Leaf}
use Rattle.tv_model.specs.declared.desc.Desc.{Desc}
use Rattle.tv_model.specs.declared.desc.Window.{Window}
use Rattle.tv_model.specs.declared.log.LogLine.TheVariants as lines
use Rattle.tv_model.specs.declared.node.Id.{Id}
use Rattle.tv_model.specs.Description.Heads.{window_head}
use Rattle.tv_model.specs.Description.Rectangles.{rect}
use Rattle.tv_machine.specs.Dialog.Mouse.{is_close_mark}
use Rattle.tv_machine.specs.Screen.Bodies.{window_of}
use Rattle.tv_machine.specs.Session.Commands.{with_line_logged}
use Rattle.tv_machine.specs.Session.Desktop.{down_on_desktop, seen_from, window_under}
use Rattle.tv_machine.specs.Session.Dragging.{is_grip}
use Rattle.tv_machine.specs.State.{OpenWindow, State}
use Rattle.tv_window.specs.DeclaredWindows.{AreDeclared, IsTextInside}
use Rattle.tv_window.specs.Head.{IsLimitedWindowHead, declared_window_head}
use Rattle.tv_window.specs.Window.{IsFreshWindow, head_of, moved_to}
use Rattle.tv_window.specs.declared.window.WindowOf.{WindowOf}
use Rattle.tv_window.specs.declared.desk.DeskOf.{DeskOf}
use Rattle.tv_window.specs.declared.desk.Hit.{Hit}
use Rattle.tv_window.specs.declared.desk.Hit.TheVariants as hits

-- ---- what is declared

-- a size and a number within limits, a short title, and static texts inside the frame
pub record IsLawfulWindow (window : Window) : Type 0 where
  pub head : IfSome (declared_window_head window.node) IsLimitedWindowHead
  pub texts : All (IsTextInside window.node) window.views

-- the windows of a description, of which no two have one id
pub record AreLawfulWindows (windows : List Window) : Type 0 where
  pub each : All IsLawfulWindow windows
  pub apart : AllPairs (λ window other. window.node.id.0 ≢ other.node.id.0) windows

-- ---- what is open

-- these windows, one for one, as they are before any event
abbrev pub AreFreshWindows : {V : Type 0} → (V → Leaf) → List Window → List (WindowOf V) → Type 0
AreFreshWindows look declared windows =
    AllZip (λ one window. IsFreshWindow look one.node one.views window) declared windows

-- no two open windows are one
abbrev pub AreDistinct : List OpenWindow → Type 0
AreDistinct stack = AllPairs (λ window other. window.id.0 ≢ other.id.0) stack

-- the open windows, one for one from the front
pub record IsDesk {V : Type 0} (look : V → Leaf) (d : Desc) (stack : List OpenWindow)
    (desk : DeskOf V) : Type 0 where
  pub windows : AreDeclared look d stack desk.windows.items.items
  pub apart : AreDistinct stack

-- the rectangle of an open window of the description
abbrev pub open_bounds : Desc → OpenWindow → Option Rect
open_bounds d o = option_map (λ window. rect o.origin.x o.origin.y window.node.w (window_head window).h) (window_of d o.id)

-- that of the one of an id
abbrev pub bounds_in : Desc → Id → List OpenWindow → Option Rect
bounds_in d i stack = option_and_then (open_bounds d) (find (λ o. o.id.0 == i.0) stack)

-- the id of the front one
abbrev pub front_id : List OpenWindow → Option Id
front_id [] = None
front_id (front ∷ behind) = Some front.id

-- they stand as they stood, but for the front one, which stands there
abbrev pub front_moved : {V : Type 0} → Point → List (WindowOf V) → List (WindowOf V)
front_moved corner [] = []
front_moved corner (front ∷ behind) = moved_to corner front ∷ behind

-- the front window, if there is one, has this corner
abbrev pub FrontStandsAt : {V : Type 0} → Point → List (WindowOf V) → Type 0
FrontStandsAt corner [] = Unit {0}
FrontStandsAt corner (front ∷ behind) = front.corner ≡ corner

-- what is left to be done after a mouse down on the front window
abbrev pub hit_on : {V : Type 0} → WindowOf V → Point → Hit
hit_on window p =
    if is_close_mark (seen_from window.corner p) then hits.CloseMark
    else if is_grip (head_of window).w (seen_from window.corner p) then hits.Grip window.corner else hits.Done

-- whether that is anything
abbrev pub is_hit : Hit → Bool
is_hit hits.CloseMark = true
is_hit (hits.Grip corner) = true
is_hit hits.Done = false

-- ---- what the flat machine does

-- a mouse down at a point of the desktop
abbrev pub down_on_desk : Desc → Point → State → State
down_on_desk d p s = down_on_desktop d (window_under d s p) p s

-- with the line that the window of an id has closed, if one has
abbrev pub with_close_line : Option Id → State → State
with_close_line None s = s
with_close_line (Some i) s = with_line_logged (lines.Close i) s
