-- What a program's call comes to.
use Rattle.std.specs.Prelude.{◌≡◌}
use Rattle.tv_app.specs.Running.{Runs}
use Rattle.tv_app.specs.declared.app.App.{App}
use Rattle.tv_machine.specs.Run.{Session}

-- the application stands for a session of the same description, to which its program has come as it promises
pub record Goes (Makes : Session → Session → Type 0) (s : Session) (app : App) : Type 0 where
  pub session : Session
  pub runs : Runs app session
  pub desc : session.desc ≡ s.desc
  pub made : Makes s session
