-- The tape of a run in a terminal, run as a script.
use Rattle.std.specs.Prelude.{◌≡◌, ◌≤◌, ℕ, List, length, Some, Result, Ok, Err}
use Rattle.tv_io.specs.Reader.{Given}
use Rattle.tv_io.specs.Writer.{Seen, Takes}
use Rattle.tv_machine.specs.Output.{output}
use Rattle.tv_machine.specs.Run.{Session, started}
use Rattle.tv_model.specs.declared.desc.Desc.{Desc}
use Rattle.tv_play.specs.Ends.{events_in, script_of}
use Rattle.tv_play.specs.Steps.{IsHeard}
use Rattle.tv_program.specs.Reading.{IsSoundText}
use Rattle.tv_script.specs.Streams.{ComesFrom}
use Rattle.tv_script.specs.Tapes.{script_text}
use Rattle.tv_script.specs.declared.stream_fault.StreamFault.{StreamFault}
use Rattle.tv_script.specs.declared.stream_fault.StreamFault.TheVariants as streams
use Rattle.tv_terminal.specs.Decoding.{Symbol}
use Rattle.tv_terminal.specs.declared.action.Action.{Action}

-- the log was written; or the reader or the writer failed, or memory ran out. The script isn't at fault
abbrev pub WritesAgain : (log : List ℕ) → (old new : Seen) → Result (Unit {0}) StreamFault → Type 0
WritesAgain log old new (Ok done) = Takes old new log
WritesAgain log old new (Err streams.NoMemory) = Unit {0}
WritesAgain log old new (Err streams.Read) = Unit {0}
WritesAgain log old new (Err (streams.Write begun)) = Unit {0}
WritesAgain log old new (Err fault) = ⊥

-- so it is whoever reads just this tape, and performs it
abbrev pub RunsAgain : (s : Session) → (tape log : List ℕ) → Type 0
RunsAgain s tape log =
    (reader left : Given) (old new : Seen) (result : Result (Unit {0}) StreamFault) → reader.left ≡ Some tape
    → ComesFrom s reader left old new (λ gone. Unit {0}) result → WritesAgain log old new result

-- What was heard of a user, of no more events and bytes than a script may have: run as a script, its tape writes
-- its log
abbrev pub TapesRunAgain : (text : List ℕ) → Type 0
TapesRunAgain text =
    (d : Desc) (symbols : List Symbol) (actions rest : List Action) → IsSoundText text d
    → IsHeard (started d) symbols actions rest → length (events_in d actions) ≤ 100000
    → length (script_text (events_in d actions)) ≤ 1048576
    → RunsAgain (started d) (script_text (events_in d actions)) (output (started d) (script_of d actions))
