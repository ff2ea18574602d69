-- What a terminal shows of a run.
use Rattle.std.specs.Prelude.{◌≡◌, ◌<◌, ◌≤◌, ◌+◌, ◌++◌, ℕ, zero, suc, Bool, true, false, List, take, drop, length, Some}
use Rattle.std.specs.List.{concat, list_any}
use Rattle.tv_terminal.specs.Displays.{Becomes, tile_of}
use Rattle.tv_terminal.specs.Terminal.{Covered, Display, kept_of}
use Rattle.tv_terminal.specs.Writing.{restored}
use Rattle.tv_terminal.specs.Written.{end_bytes}
use Rattle.tv_terminal.specs.declared.action.Action.{Action}
use Rattle.tv_terminal.specs.declared.colour.Colours.{Colours}
use Rattle.tv_terminal.specs.declared.painter.Painter.{Painter}
use Rattle.tv_cells.specs.Repainting.{has_cell}
use Rattle.tv_cells.specs.declared.rect.Rect.{Rect}
use Rattle.tv_machine.specs.Output.{screen_cell}
use Rattle.tv_machine.specs.Run.{Session}
use Rattle.tv_model.specs.Description.Numbers.{natural}
use Rattle.tv_model.specs.declared.desc.Desc.{Desc}
use Rattle.tv_play.specs.Cursor.{is_cursor}
use Rattle.tv_play.specs.Ends.{events_in, is_refreshing, reached}
use Rattle.tv_play.specs.Notes.{FitsTold, ShowsNote, refusal_told, size_told}
use Rattle.tv_play.specs.Refusals.{refusals}

-- ---- sessions

-- a column and a row of the screen
pub record IsScreenPlace (s : Session) (column row : ℕ) : Type 0 where
  pub across : column < natural s.desc.width
  pub down : row < natural s.desc.height

-- no cell of the screen has changed but those of some rectangles, which lie on it
pub record KeepsScreen (rects : List Rect) (old new : Session) : Type 0 where
  pub within : (column row : ℕ) → has_cell rects column row ≡ true → IsScreenPlace old column row
  pub each : (column row : ℕ) → IsScreenPlace old column row → has_cell rects column row ≡ false
      → screen_cell new column row ≡ screen_cell old column row

-- the painter is one for screens of this size
pub record HasSize (s : Session) (painter : Painter) : Type 0 where
  pub width : painter.shown.width ≡ natural s.desc.width
  pub height : painter.shown.height ≡ natural s.desc.height

-- ---- terminals

-- a terminal with room for the session's screen
pub record HasRoom (s : Session) (d : Display) : Type 0 where
  pub across : natural s.desc.width ≤ d.columns
  pub down : natural s.desc.height ≤ d.rows

-- its normal screen, and where its cursor stands
abbrev pub normal_of : Display → Covered
normal_of d = kept_of d.covered d

-- its cursor stands at a cell of the session's screen that has the colours of an input's cursor, and is
-- hidden where none has
pub record ShowsCursor (s : Session) (e : Display) : Type 0 where
  pub shown : e.has_cursor ≡ true
      → IsScreenPlace s e.column e.row × (is_cursor (screen_cell s e.column e.row) ≡ true)
  pub hidden : e.has_cursor ≡ false → (column row : ℕ) → IsScreenPlace s column row
      → is_cursor (screen_cell s column row) ≡ false

-- it shows each cell of the session's screen, by its character and its colours, and the cursor of the focused
-- input, tells of the mouse, keeps its normal screen, and was told nothing that its definition lacks
pub record ShowsSession (colours : Colours) (s : Session) (d e : Display) : Type 0 where
  pub each : (column row : ℕ) → IsScreenPlace s column row
      → e.cells column row ≡ tile_of colours (screen_cell s column row)
  pub cursor : ShowsCursor s e
  pub columns : e.columns ≡ d.columns
  pub rows : e.rows ≡ d.rows
  pub mouse : e.has_mouse ≡ true
  pub reports : e.has_long_reports ≡ true
  pub meta : e.has_meta_escapes ≡ true
  pub alt : e.has_alt_escapes ≡ true
  pub pastes : e.has_paste_brackets ≡ true
  pub covered : e.covered ≡ Some (normal_of d)
  pub lost : e.is_lost ≡ d.is_lost

-- ---- a run

-- after each of the actions from one on and up to another it is no smaller than it told, and told that it has room
abbrev pub IsAsTold : Session → List Action → (j k : ℕ) → Display → Type 0
IsAsTold s actions j k d = (i : ℕ) → j ≤ i → i ≤ k → FitsTold s.desc (size_told (take i actions)) d

-- a frame paints the whole screen: that of the beginning, and that of each action for which it is painted anew
abbrev pub is_whole : Desc → List Action → (frame : ℕ) → Bool
is_whole d actions zero = true
is_whole d actions (suc k) = list_any (is_refreshing d) (take 1 (drop k actions))

-- how many of the first actions were refused
abbrev pub refusals_to : Session → List Action → (k : ℕ) → ℕ
refusals_to s actions k = refusals s (events_in s.desc (take k actions))

-- told some frames, up to that of an action, it shows the screen that the action left, and below it why an input
-- refused that, and its bell rang once for each refusal
pub record ShowsFrames (colours : Colours) (s : Session) (actions : List Action) (j k : ℕ) (d e : Display)
    : Type 0 where
  pub shows : ShowsSession colours (reached s (take k actions)) d e
  pub note : ShowsNote s.desc (size_told (take k actions)) (refusal_told s (take k actions)) e
  pub bells : e.bells + refusals_to s actions j ≡ d.bells + refusals_to s actions k

-- The bytes of the beginning, and those of each action: told them from a frame on that paints the whole screen,
-- a terminal that showed anything shows what each action left, with no sequence left open
pub record ShowsEach (colours : Colours) (s : Session) (actions : List Action) (frames : List (List ℕ))
    : Type 0 where
  pub count : length frames ≡ length actions + 1
  pub each : (d : Display) → HasRoom s d → (j k : ℕ) → IsAsTold s actions j k d → is_whole s.desc actions j ≡ true
      → j ≤ k → k ≤ length actions → Becomes (concat (drop j (take (k + 1) frames))) d (ShowsFrames colours s actions j k d)

-- it is as it was, in plain colours, with its cursor, without the mouse and what else a run asks for; but its bell
-- rang once for each refusal
pub record IsAsBefore (s : Session) (actions : List Action) (j : ℕ) (d e : Display) : Type 0 where
  pub is : record e { bells = d.bells } ≡ restored (normal_of d) d
  pub bells : e.bells + refusals_to s actions j ≡ d.bells + refusals_to s actions (length actions)

-- told them all from such a frame on, and the bytes of the end
pub record IsRestored (s : Session) (actions : List Action) (frames : List (List ℕ)) : Type 0 where
  pub end : (d : Display) → HasRoom s d → (j : ℕ) → IsAsTold s actions j (length actions) d
      → is_whole s.desc actions j ≡ true → j ≤ length actions → Becomes (concat (drop j frames) ++ end_bytes) d (IsAsBefore s actions j d)
