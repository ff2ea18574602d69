-- A session, and the run of the flat machine that it stands for.
use Rattle.std.specs.Prelude.{◌≡◌, ℕ, Option, Some, None, option_map, slice_get, if◌then◌else◌}
use Rattle.std.specs.Option.{option_and_then}
use Rattle.tv_laws.specs.Runs.{IsFitState, with_saved}
use Rattle.tv_machine.specs.Run.{Session, quiet}
use Rattle.tv_cells.specs.declared.rect.Rect.{Rect}
use Rattle.tv_dialogs.specs.Placing.{bounds_of_open}
use Rattle.tv_machine.specs.Session.Laid.{has_open}
use Rattle.tv_machine.specs.State.{OpenDialog}
use Rattle.tv_window.specs.Desk.{bounds_in, front_id}
use Rattle.tv_menu.specs.Line.{IsStatusLineOf}
use Rattle.tv_model.specs.Log.Record.{Entries}
use Rattle.tv_model.specs.declared.node.Id.{Id}
use Rattle.tv_view.specs.Meaning.{Leaf}
use Rattle.tv_script.specs.Performed.{IsScreenOf}
use Rattle.tv_session.specs.Running.{IsRun}
use Rattle.tv_session.specs.declared.session.SessionOf.{SessionOf}

-- the session stands for a run of its description: its windows, dialogs, menus and log are the state's, its
-- screen shows the state, and the state is one that runs of sound dialogs come to
pub record StandsFor {V : Type 0} (look : V → Leaf) (session : SessionOf V) (s : Session) : Type 0 where
  pub desc : session.checked ≡ s.desc
  pub run : IsRun look s.desc s.state session.run
  pub line : IsStatusLineOf s.desc session.line
  pub fit : IsFitState s.desc s.state
  pub screen : IsScreenOf s session.screen

-- a session whose log was taken: it stands for each run for which it stood, with an empty log, and what was
-- painted again last is the same
pub record IsQuieted {V : Type 0} (look : V → Leaf) (old new : SessionOf V) : Type 0 where
  pub runs : (s : Session) → StandsFor look old s → StandsFor look new (quiet s)
  pub repainted : new.repainted ≡ old.repainted

-- the id of the dialog that is open
abbrev pub open_id_of : Session → Option Id
open_id_of s =
    option_and_then
    (λ o. option_map (λ dialog. dialog.node.id) (slice_get s.desc.dialogs o.place))
    s.state.dialog

-- the run in which the last end of the dialog at a place saved this record
abbrev pub handed_in : ℕ → Entries → Session → Session
handed_in place entries s = record s { state = with_saved place entries s.state }

-- the rectangle on the screen of the open dialog or window of an id
abbrev pub bounds_of : Session → Id → Option Rect
bounds_of s i =
    if has_open s.desc i s.state.dialog then bounds_of_open s.desc s.state.dialog
    else bounds_in s.desc i s.state.windows

-- the id of what is in front: the open dialog, or without one the front window
abbrev pub front_by : Session → Option OpenDialog → Option Id
front_by s None = front_id s.state.windows
front_by s (Some o) = open_id_of s

abbrev pub front_of : Session → Option Id
front_of s = front_by s s.state.dialog
