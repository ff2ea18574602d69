-- The run of the flat machine that an application stands for, with the words that callers say of one.
use Rattle.tv_laws.specs.Runs.{IsFitState}
use Rattle.tv_lawful.specs.Laws.{RunsByLaws}
use Rattle.tv_machine.specs.Dialog.Sound.{HasSoundDialogs}
pub use Rattle.tv_machine.specs.Run.{Session, commanded, quiet, started, stepped}
pub use Rattle.tv_machine.specs.Session.Step.{takes_command}
use Rattle.tv_app.specs.declared.app.App.{App}
use Rattle.tv_session.specs.Session.{StandsFor}
use Rattle.tv_app.specs.Control.{control_leaf}

-- The application's windows, dialogs, menus, log and screen are those of a run, which has come to a fit state.
-- Its dialogs are sound, and the laws hold of every fit state of its description: so whatever events, commands
-- and records came before, Tab, letters, Esc and ends do what they say.
pub record Runs (app : App) (s : Session) : Type 0 where
  pub stands : StandsFor control_leaf app.session s
  pub fit : IsFitState s.desc s.state
  pub sound : HasSoundDialogs s.desc
  pub laws : RunsByLaws s.desc
