-- The note below the screen, which says why an input refused an event.
use Rattle.std.specs.Prelude.{◌≡◌, ◌≤◌, ◌<◌, ◌-◌, ℕ, Bool, true, false, ◌&&◌, nat_le, nat_lt, min, if◌then◌else◌}
use Rattle.std.specs.Prelude.{List, [], ◌∷◌, reverse, take, Option, Some, None, is_some}
use Rattle.tv_cells.specs.Picture.{IsAlike, IsOn, cell_at}
use Rattle.tv_io.specs.Pen.{Puts}
use Rattle.tv_io.specs.Writer.{Seen}
use Rattle.tv_io.specs.declared.pen.Pen.{Pen}
use Rattle.tv_machine.specs.Run.{Session, stepped}
use Rattle.tv_model.specs.Description.Heads.{all_nodes}
use Rattle.tv_model.specs.Description.Nodes.{node_of}
use Rattle.tv_model.specs.Description.Numbers.{natural}
use Rattle.tv_model.specs.declared.desc.Desc.{Desc}
use Rattle.tv_play.specs.Edge.{brought}
use Rattle.tv_play.specs.Ends.{is_refreshing, reached}
use Rattle.tv_play.specs.Refusals.{refusal_of}
use Rattle.tv_play.specs.declared.monitor.Monitor.{Monitor}
use Rattle.tv_play.specs.declared.refusal.Refusal.{Refusal}
use Rattle.tv_reasons.specs.Reasons.{IsReason}
use Rattle.tv_terminal.specs.Displays.{Becomes, Stays}
use Rattle.tv_terminal.specs.Notes.{note_tile}
use Rattle.tv_terminal.specs.Terminal.{Display}
use Rattle.tv_terminal.specs.Writing.{Covers, IsRight}
use Rattle.tv_terminal.specs.declared.action.Action.{Action}
use Rattle.tv_terminal.specs.declared.action.Action.TheVariants.{Event, Resized}
use Rattle.tv_terminal.specs.declared.action.Size.{Size}

-- ---- what is known after some actions

-- the size that the terminal told last
abbrev pub size_with : Option Size → Action → Option Size
size_with was (Resized size) = Some size
size_with was action = was

abbrev pub size_after : Option Size → List Action → Option Size
size_after was [] = was
size_after was (action ∷ actions) = size_after (size_with was action) actions

abbrev pub size_told : List Action → Option Size
size_told actions = size_after None actions

-- what the last of them was refused by: an event that was performed
abbrev pub refusal_in : Session → Action → Option Refusal
refusal_in s (Event event) = refusal_of s (stepped s (brought s.desc event)) (brought s.desc event)
refusal_in s action = None

abbrev pub refusal_with : Session → Action → Option Refusal
refusal_with s action = if is_refreshing s.desc action then None else refusal_in s action

abbrev pub refusal_behind : Session → (backwards : List Action) → Option Refusal
refusal_behind s [] = None
refusal_behind s (action ∷ before) = refusal_with (reached s (reverse before)) action

abbrev pub refusal_told : Session → List Action → Option Refusal
refusal_told s actions = refusal_behind s (reverse actions)

-- ---- a terminal

-- it has room for the screen
abbrev pub has_room : Desc → Size → Bool
has_room d size = nat_le (natural d.width) size.columns && nat_le (natural d.height) size.rows

-- and for one row more
abbrev pub has_row_below : Desc → Size → Bool
has_row_below d size = has_room d size && nat_lt (natural d.height) size.rows

-- how much of the screen is shown: all of it, or what there is room for above a row that says so
abbrev pub window_of : Desc → Option Size → Size
window_of d None = record { columns = natural d.width; rows = natural d.height }
window_of d (Some size) =
    if has_room d size then record { columns = natural d.width; rows = natural d.height }
    else record { columns = size.columns; rows = min (natural d.height) (size.rows - 1) }

-- it isn't smaller than it told, and told that it has room for the screen
abbrev pub FitsTold : Desc → Option Size → Display → Type 0
FitsTold d None e = Unit {0}
FitsTold d (Some size) e = (has_room d size ≡ true) × (size.columns ≤ e.columns) × (size.rows ≤ e.rows)

-- what is known of it is of this screen
pub record IsMonitorOf (d : Desc) (monitor : Monitor) : Type 0 where
  pub width : monitor.painter.shown.width ≡ natural d.width
  pub height : monitor.painter.shown.height ≡ natural d.height
  pub window : monitor.painter.window ≡ window_of d monitor.size
  pub filled : 0 < natural d.width
  pub low : natural d.height < 999

-- what is said of a refusal, and nothing where there was none
abbrev pub IsSaid : Desc → Option Refusal → List ℕ → Type 0
IsSaid d None line = line ≡ []
IsSaid d (Some refusal) line = IsReason (node_of (all_nodes d) refusal.id) refusal.is_hidden line

-- the row below the screen shows as much of it as a row has room for
pub record NoteShows (d : Desc) (size : Size) (refusal : Option Refusal) (e : Display) : Type 0 where
  pub line : List ℕ
  pub said : IsSaid d refusal line
  pub row : (column : ℕ) → e.cells column (natural d.height) ≡ note_tile (take (size.columns - 1) line) column

-- where it told that it has such a row
abbrev pub ShowsNote : Desc → Option Size → Option Refusal → Display → Type 0
ShowsNote d None refusal e = Unit {0}
ShowsNote d (Some size) refusal e = has_row_below d size ≡ true → NoteShows d size refusal e

-- ---- writing it

-- what a terminal shows with it: no row of the screen has changed
pub record Renoted (d : Desc) (refusal : Option Refusal) (new : Monitor) (f e : Display) : Type 0 where
  pub note : ShowsNote d new.size refusal e
  pub above : (column row : ℕ) → row < natural d.height → e.cells column row ≡ f.cells column row
  pub right : IsRight new.painter e
  pub stays : Stays f e

-- it was written where it has a row
pub record WritesNote {W : Type 0} (seen : W → Seen) (d : Desc) (refusal : Option Refusal) (old new : Monitor)
    (before after : Pen W) : Type 0 where
  pub size : new.size ≡ old.size
  pub window : new.painter.window ≡ old.painter.window
  pub known : new.painter.is_known ≡ old.painter.is_known
  pub colours : new.painter.colours ≡ old.painter.colours
  pub shown : new.painter.shown ≡ old.painter.shown
  pub bytes : List ℕ
  pub puts : Puts seen before after bytes
  pub tells : (f : Display) → FitsTold d old.size f → IsRight old.painter f → Becomes bytes f (Renoted d refusal new f)

-- it was written that not all of the screen is shown, if so; nothing else has changed
pub record SaysClipped {W : Type 0} (seen : W → Seen) (old new : Monitor) (before after : Pen W) : Type 0 where
  pub size : new.size ≡ old.size
  pub noted : new.is_noted ≡ old.is_noted
  pub window : new.painter.window ≡ old.painter.window
  pub known : new.painter.is_known ≡ old.painter.is_known
  pub colours : new.painter.colours ≡ old.painter.colours
  pub alike : IsAlike old.painter.shown new.painter.shown
  pub cells : (column row : ℕ) → IsOn old.painter.shown column row
      → cell_at new.painter.shown column row ≡ cell_at old.painter.shown column row
  pub bytes : List ℕ
  pub puts : Puts seen before after bytes
  pub still : Covers old.painter.window old.painter.shown → (new ≡ old) × (bytes ≡ [])

-- it was written, unless there is none and was none
pub record Renotes {W : Type 0} (seen : W → Seen) (d : Desc) (refusal : Option Refusal) (old new : Monitor)
    (before after : Pen W) : Type 0 where
  pub size : new.size ≡ old.size
  pub window : new.painter.window ≡ old.painter.window
  pub noted : new.is_noted ≡ is_some refusal
  pub known : new.painter.is_known ≡ old.painter.is_known
  pub colours : new.painter.colours ≡ old.painter.colours
  pub shown : new.painter.shown ≡ old.painter.shown
  pub bytes : List ℕ
  pub puts : Puts seen before after bytes
  pub tells : (f : Display) → FitsTold d old.size f → IsRight old.painter f
      → (old.is_noted ≡ false → ShowsNote d old.size None f) → Becomes bytes f (Renoted d refusal new f)
