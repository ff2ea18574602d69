-- How far a script that comes in pieces was performed.
use Rattle.std.specs.Prelude.{◌≡◌, ◌≤◌, ℕ, ◌+◌, Bool, true, false, List, [], ◌∷◌, ◌++◌, flat_map, length}
use Rattle.std.specs.Prelude.{Option, Some, None, Result, Ok, Err}
use Rattle.std.specs.List.{AllByRecursion, list_any}
use Rattle.tv_io.specs.Writer.{Cuts, Seen, Takes}
use Rattle.tv_machine.specs.Run.{Session}
use Rattle.tv_machine.specs.declared.script.Item.{Item}
use Rattle.tv_script.specs.declared.feed.Feed.{Feed}
use Rattle.tv_script.specs.declared.script_line.ScriptLine.{ScriptLine}
use Rattle.tv_script.specs.declared.script_text.ScriptFault.{ScriptFault}
use Rattle.tv_script.specs.declared.script_text.ScriptFault.TheVariants as scripts
use Rattle.tv_script.specs.declared.stream_fault.StreamFault.{StreamFault}
use Rattle.tv_script.specs.declared.stream_fault.StreamFault.TheVariants as streams
use Rattle.tv_script.specs.Lines.{ends_line, items_of_line}
use Rattle.tv_script.specs.Performed.{Stops}
use Rattle.tv_script.specs.Judging.{judged_as, judged_lines, judgement}
use Rattle.tv_script.specs.Reading.Scripts.{with_bytes}
use Rattle.tv_script.specs.ScriptLines.{line_meant}
use Rattle.tv_script.specs.Streams.{AreFirstOf, Performs}

-- bytes without a line end
abbrev pub IsUnended : List ℕ → Type 0
IsUnended line = list_any ends_line line ≡ false

-- lines, each with its line end (10)
abbrev pub with_line_ends : List (List ℕ) → List ℕ
with_line_ends lines = flat_map (λ line. line ++ 10 ∷ []) lines

-- ---- lines

-- the lines were judged as those of a script, and performed
pub record HasPlayed (s : Session) (lines : List (List ℕ)) (begun : ℕ) (from now : Seen)
    (Left : Session → Type 0) : Type 0 where
  pub items : List Item
  pub read : judged_lines s.desc.width s.desc.height lines ≡ judgement items (Ok tt)
  pub count : begun ≡ length items
  pub performs : Performs s items from now Left

-- the line after these was read, and is refused
pub record IsRefusedLine (s : Session) (lines : List (List ℕ)) (line : List ℕ) (begun : ℕ) (from now : Seen)
    (Left : Session → Type 0) (fault : ScriptFault) : Type 0 where
  pub played : HasPlayed s lines begun from now Left
  pub refused : with_bytes s.desc.width s.desc.height (length lines + 1) played.items line ≡ Err fault

-- the writer failed at an item of these lines, no earlier than at one after so many
pub record IsCutLine (s : Session) (lines : List (List ℕ)) (begun at : ℕ) (from now : Seen)
    (Left : Session → Type 0) : Type 0 where
  pub items : List Item
  pub read : judged_lines s.desc.width s.desc.height lines ≡ judgement items (Ok tt)
  pub later : begun ≤ at
  pub stops : Stops s items at from now Left

-- the line after these wasn't performed to its end: it is refused, or the writer failed
abbrev pub IsUnplayed : (s : Session) (lines : List (List ℕ)) (line : List ℕ) (begun : ℕ) (from now : Seen)
    (Left : Session → Type 0)
    → StreamFault → Type 0
IsUnplayed s lines line begun from now Left (streams.Syntax n) =
    IsRefusedLine s lines line begun from now Left (scripts.Syntax n)
IsUnplayed s lines line begun from now Left (streams.OffScreen n) =
    IsRefusedLine s lines line begun from now Left (scripts.OffScreen n)
IsUnplayed s lines line begun from now Left streams.TooLong =
    IsRefusedLine s lines line begun from now Left scripts.TooLong
IsUnplayed s lines line begun from now Left (streams.Write at) =
    IsCutLine s (lines ++ line ∷ []) begun at from now Left
IsUnplayed s lines line begun from now Left _ = ⊥

-- ---- bytes

-- so it is of each stream that goes on from the bytes that came; of these alone, at the end
abbrev pub OfEach : (given : List ℕ) (ended : Bool) → (List ℕ → Type 0) → Type 0
OfEach given ended Holds = (rest : List ℕ) → (ended ≡ true → rest ≡ []) → Holds (given ++ rest)

-- the bytes decide that the script is at fault; so many items before that were performed
pub record Leaves (s : Session) (given : List ℕ) (ended : Bool) (begun : ℕ) (from now : Seen)
    (Left : Session → Type 0) (fault : ScriptFault) : Type 0 where
  pub items : List Item
  pub decided : OfEach given ended (λ stream.
      judged_as s.desc.width s.desc.height stream ≡ judgement items (Err fault))
  pub count : begun ≡ length items
  pub performs : Performs s items from now Left

-- the writer failed at one of the items with which each stream begins
pub record IsCutOff (s : Session) (given : List ℕ) (ended : Bool) (begun at : ℕ) (from now : Seen)
    (Left : Session → Type 0) : Type 0 where
  pub items : List Item
  pub first : OfEach given ended (λ stream. AreFirstOf items (judged_as s.desc.width s.desc.height stream))
  pub later : begun ≤ at
  pub stops : Stops s items at from now Left

-- why a stream is left while it is performed, so many items having been begun before: by the script, or by
-- the writer
abbrev pub Breaks : (s : Session) (given : List ℕ) (ended : Bool) (begun : ℕ) (from now : Seen)
    (Left : Session → Type 0) → StreamFault → Type 0
Breaks s given ended begun from now Left (streams.Syntax line) =
    Leaves s given ended begun from now Left (scripts.Syntax line)
Breaks s given ended begun from now Left (streams.OffScreen line) =
    Leaves s given ended begun from now Left (scripts.OffScreen line)
Breaks s given ended begun from now Left streams.TooLong =
    Leaves s given ended begun from now Left scripts.TooLong
Breaks s given ended begun from now Left (streams.Write at) =
    IsCutOff s given ended begun at from now Left
Breaks s given ended begun from now Left _ = ⊥

-- the bytes are all, and so many items were performed
pub record Ends (s : Session) (given : List ℕ) (begun : ℕ) (from now : Seen) (Left : Session → Type 0)
    : Type 0 where
  pub items : List Item
  pub read : judged_as s.desc.width s.desc.height given ≡ judgement items (Ok tt)
  pub count : begun ≡ length items
  pub performs : Performs s items from now Left

-- the items of a line, if there is one
abbrev pub items_found : Option ScriptLine → List Item
items_found None = []
items_found (Some line) = items_of_line (line_meant line)

-- lines are judged for the session's screen
pub record HasScreenOf (s : Session) (feed : Feed) : Type 0 where
  pub width : feed.width ≡ s.desc.width
  pub height : feed.height ≡ s.desc.height

-- the next line begins
pub record BeginsLine (old new : Feed) : Type 0 where
  pub empty : new.line.items ≡ []
  pub number : new.lines ≡ old.lines + 1
  pub bytes : new.bytes ≡ old.bytes
  pub width : new.width ≡ old.width
  pub height : new.height ≡ old.height

-- the bytes are the lines that were performed, and the line at hand
pub record IsFed (s : Session) (feed : Feed) (given : List ℕ) (from now : Seen)
    (Left : Session → Type 0) : Type 0 where
  pub screen : HasScreenOf s feed
  pub lines : List (List ℕ)
  pub parts : given ≡ with_line_ends lines ++ feed.line.items
  pub whole : AllByRecursion IsUnended lines
  pub open_line : IsUnended feed.line.items
  pub number : feed.lines ≡ length lines
  pub bytes : feed.bytes ≡ length given
  pub played : HasPlayed s lines feed.items from now Left

-- ---- pieces

-- there are no bytes
abbrev pub is_nil : List ℕ → Bool
is_nil [] = true
is_nil (c ∷ cs) = false

-- a piece was taken, the empty one being the end; or a line of it wasn't performed to its end
abbrev pub IsTaken : (s : Session) (feed : Feed) (given piece : List ℕ) (from now : Seen)
    (Left : Session → Type 0) → Result (Unit {0}) StreamFault → Type 0
IsTaken s feed given piece from now Left (Err fault) =
    Breaks s (given ++ piece) (is_nil piece) feed.items from now Left fault
IsTaken s feed given [] from now Left (Ok _) = Ends s given feed.items from now Left
IsTaken s feed given (c ∷ cs) from now Left (Ok _) = IsFed s feed (given ++ c ∷ cs) from now Left

-- the writer failed
abbrev pub is_write : StreamFault → Bool
is_write (streams.Write at) = true
is_write _ = false

-- so it is where that is the answer
abbrev pub is_stopped_by : Result (Unit {0}) StreamFault → Bool
is_stopped_by (Ok _) = false
is_stopped_by (Err fault) = is_write fault

-- What was written is passed on, unless the writer failed before. Where it fails at that, so many items were
-- begun.
pub data PassedOn (begun : ℕ) (answer : Result (Unit {0}) StreamFault) (old new : Seen)
    (result : Result (Unit {0}) StreamFault) : Type 0 where
  failed : is_stopped_by answer ≡ true → new ≡ old → result ≡ answer → PassedOn begun answer old new result
  passed : is_stopped_by answer ≡ false → Takes old new [] → new.kept ≡ [] → result ≡ answer
      → PassedOn begun answer old new result
  held : is_stopped_by answer ≡ false → Cuts old new [] → result ≡ Err (streams.Write begun)
      → PassedOn begun answer old new result
