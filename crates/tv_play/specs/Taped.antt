-- What is heard of a user, as a script.
use Rattle.std.specs.Prelude.{pos, ◌≤ℤ◌, List}
use Rattle.std.specs.List.{AllByRecursion}
use Rattle.tv_machine.specs.Run.{Session}
use Rattle.tv_play.specs.Ends.{events_in}
use Rattle.tv_play.specs.Steps.{IsHeard}
use Rattle.tv_script.specs.Tapes.{IsSayable}
use Rattle.tv_terminal.specs.Decoding.{Symbol}
use Rattle.tv_terminal.specs.declared.action.Action.{Action}

-- each event of a run in a terminal can be said by a script for its screen, where that has a cell
abbrev pub HeardCanBeSaid : Type 0
HeardCanBeSaid =
    (s : Session) (symbols : List Symbol) (actions rest : List Action) → pos 1 ≤ℤ s.desc.width
    → pos 1 ≤ℤ s.desc.height → IsHeard s symbols actions rest
    → AllByRecursion (IsSayable s.desc.width s.desc.height) (events_in s.desc actions)
