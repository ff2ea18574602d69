-- What a terminal shows of a program's run.
use Rattle.std.specs.Prelude.{◌≡◌, ◌≤◌, ℕ, Bool, true, false, List, [], ◌∷◌, ◌++◌, Option, Some, None}
use Rattle.std.specs.List.{AllByRecursion}
use Rattle.tv_cells.specs.Picture.{Picture}
use Rattle.tv_cells.specs.Repainting.{has_cell}
use Rattle.tv_cells.specs.Rectangle.{sized}
use Rattle.tv_cells.specs.declared.rect.Point.{Point}
use Rattle.tv_io.specs.Pen.{PutsBy}
use Rattle.tv_io.specs.Writer.{Seen}
use Rattle.tv_io.specs.declared.pen.Pen.{Pen}
use Rattle.tv_live.specs.Course.{Begins, Cause, Does, Moment, Turns}
use Rattle.tv_machine.specs.Run.{Session}
use Rattle.tv_model.specs.Description.Numbers.{natural}
use Rattle.tv_model.specs.declared.desc.Desc.{Desc}
use Rattle.tv_play.specs.Cursor.{FindsCursor}
use Rattle.tv_play.specs.Ends.{is_refreshing}
use Rattle.tv_play.specs.Notes.{FitsTold}
use Rattle.tv_play.specs.Shown.{ShowsSession, normal_of}
use Rattle.tv_script.specs.Performed.{IsScreenOf}
use Rattle.tv_terminal.specs.Displays.{Becomes}
use Rattle.tv_terminal.specs.Terminal.{Display}
use Rattle.tv_terminal.specs.Writing.{BeginsScreen, IsRight, Paints, restored}
use Rattle.tv_terminal.specs.Written.{cursor_on, end_bytes}
use Rattle.tv_terminal.specs.declared.action.Size.{Size}
use Rattle.tv_terminal.specs.declared.colour.Colours.{Colours}
use Rattle.tv_terminal.specs.declared.painter.Painter.{Painter}

-- what was written at some moments, of which the last stands first
abbrev pub text : {P : Type 0} → List (Moment P) → List ℕ
text [] = []
text (now ∷ earlier) = text earlier ++ now.bytes

-- the whole screen is painted, whatever the terminal shows
abbrev pub is_whole : Desc → Cause → Bool
is_whole d Begins = true
is_whole d (Does action) = is_refreshing d action
is_whole d Turns = false

-- so it is at the first of some moments
abbrev pub starts_whole : {P : Type 0} → Desc → List (Moment P) → Bool
starts_whole d [] = false
starts_whole d (now ∷ []) = is_whole d now.cause
starts_whole d (now ∷ (before ∷ earlier)) = starts_whole d (before ∷ earlier)

-- moments one after another, at the first of which the whole screen is painted, in a terminal that has room for it
-- and at each of them is no smaller than it told
pub record IsStretch {P : Type 0} (d : Desc) (e : Display) (moments : List (Moment P)) : Type 0 where
  pub whole : starts_whole d moments ≡ true
  pub across : natural d.width ≤ e.columns
  pub down : natural d.height ≤ e.rows
  pub fits : AllByRecursion (λ (now : Moment P). FitsTold d now.size e) moments

-- it shows a session's screen, and its bell hasn't rung
pub record ShowsQuietly (colours : Colours) (s : Session) (e f : Display) : Type 0 where
  pub shows : ShowsSession colours s e f
  pub bells : f.bells ≡ e.bells

-- Told what was written in a stretch of these moments, a terminal that showed anything before shows the session of
-- the stretch's last moment
pub record ShowsEach {P : Type 0} (colours : Colours) (d : Desc) (moments : List (Moment P)) : Type 0 where
  pub each : (now : Moment P) (stretch before after : List (Moment P)) → moments ≡ after ++ now ∷ (stretch ++ before)
      → (e : Display) → IsStretch d e (now ∷ stretch)
      → Becomes (text (now ∷ stretch)) e (ShowsQuietly colours now.session e)

-- told a stretch up to the last moment, and the bytes of the end, it is as it was
pub record IsRestored {P : Type 0} (d : Desc) (moments : List (Moment P)) : Type 0 where
  pub end : (now : Moment P) (stretch before : List (Moment P)) → moments ≡ now ∷ (stretch ++ before)
      → (e : Display) → IsStretch d e (now ∷ stretch)
      → Becomes (text (now ∷ stretch) ++ end_bytes) e (λ f. f ≡ restored (normal_of e) e)

-- ---- the painter

-- how much of the screen is shown: all of it, or what the terminal told that it has room for
abbrev pub window_in : Desc → Option Size → Size
window_in d None = record { columns = natural d.width; rows = natural d.height }
window_in d (Some size) = size

-- the painter is one for this screen, in such a window
pub record IsPainterOf (d : Desc) (size : Option Size) (painter : Painter) : Type 0 where
  pub width : painter.shown.width ≡ natural d.width
  pub height : painter.shown.height ≡ natural d.height
  pub window : painter.window ≡ window_in d size

-- told a stretch up to the last moment, a terminal shows what the painter takes it to show
abbrev pub IsRightAfter : {P : Type 0} → Desc → List (Moment P) → Painter → Type 0
IsRightAfter {P} d moments painter =
    (now : Moment P) (stretch before : List (Moment P)) → moments ≡ now ∷ (stretch ++ before)
    → (e : Display) → IsStretch d e (now ∷ stretch) → Becomes (text (now ∷ stretch)) e (IsRight painter)

-- what a terminal has to be told of the moments was written to it
pub record HasBeenShown {P : Type 0} (colours : Colours) (d : Desc) (moments : List (Moment P)) (from now : Seen)
    (stopped : Bool) (painter : Painter) : Type 0 where
  pub same : painter.colours ≡ colours
  pub shows : ShowsEach colours d moments
  pub right : IsRightAfter d moments painter
  pub put : PutsBy from false now stopped (text moments)

-- a session's screen was painted over what shows
pub record PaintsSession {W : Type 0} (seen : W → Seen) (s : Session) (old new : Painter) (before after : Pen W) : Type 0 where
  pub screen : Picture
  pub cursor : Option Point
  pub is : IsScreenOf s screen
  pub finds : FindsCursor screen cursor
  pub paints : Paints seen (λ column row. has_cell (sized screen.width screen.height ∷ []) column row ≡ true) screen
      (cursor_on screen.width screen.height cursor) old new before after

-- it was painted whatever shows
pub record BeginsSession {W : Type 0} (seen : W → Seen) (s : Session) (size : Option Size) (old new : Painter)
    (before after : Pen W) : Type 0 where
  pub screen : Picture
  pub cursor : Option Point
  pub is : IsScreenOf s screen
  pub finds : FindsCursor screen cursor
  pub begins : BeginsScreen seen screen (cursor_on screen.width screen.height cursor) (window_in s.desc size) old new before after
