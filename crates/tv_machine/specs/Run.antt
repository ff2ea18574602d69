-- A run of a description, event for event.
use Rattle.std.specs.Prelude.{Option}
use Rattle.tv_cells.specs.Picture.{Picture}
use Rattle.tv_event.specs.declared.event.Command.{Command}
use Rattle.tv_event.specs.declared.event.Event.{Event}
use Rattle.tv_model.specs.declared.desc.Desc.{Desc}
use Rattle.tv_model.specs.declared.node.Id.{Id}
use Rattle.tv_machine.specs.State.{State}
use Rattle.tv_machine.specs.Session.Laid.{laid}
use Rattle.tv_machine.specs.Session.Step.{give_command, step, with_empty_log}
use Rattle.tv_machine.specs.Session.Start.{start}

-- a description and the state of its run
pub record Session : Type 0 where
  pub desc : Desc
  pub state : State

-- before the first event
abbrev pub started : Desc → Session
started d = record { desc = d; state = start d }

-- after one event
abbrev pub stepped : Session → Event → Session
stepped s e = record { desc = s.desc; state = step s.desc s.state e }

-- after a command that the program gives
abbrev pub commanded : Session → Command → Session
commanded s c = record { desc = s.desc; state = give_command s.desc s.state c.0 }

-- after a sheet was laid in the open window or dialog of an id, or taken away
abbrev pub with_sheet : Session → Id → Option Picture → Session
with_sheet s i sheet = record { desc = s.desc; state = laid s.desc i sheet s.state }

-- its log was taken
abbrev pub quiet : Session → Session
quiet s = record { desc = s.desc; state = with_empty_log s.state }
