-- What performing a script that is read in pieces comes to.
use Rattle.std.specs.Prelude.{◌≡◌, ◌≤◌, ℕ, true, List, [], ◌++◌, length, Result, Ok, Err}
use Rattle.tv_io.specs.Reader.{Given, GivesNot, HasGiven, IsReadSoFar}
use Rattle.tv_io.specs.Writer.{Seen, Takes}
use Rattle.tv_machine.specs.Output.{output, after}
use Rattle.tv_machine.specs.Run.{Session}
use Rattle.tv_machine.specs.declared.script.Item.{Item}
use Rattle.tv_script.specs.Judging.{Judgement, judged_as, judgement, up_to_last_end}
use Rattle.tv_script.specs.Performed.{Stops}
use Rattle.tv_script.specs.declared.script_text.ScriptFault.{ScriptFault}
use Rattle.tv_script.specs.declared.script_text.ScriptFault.TheVariants as scripts
use Rattle.tv_script.specs.declared.stream_fault.StreamFault.{StreamFault}
use Rattle.tv_script.specs.declared.stream_fault.StreamFault.TheVariants as streams

-- a fault of a script, as that of its stream
abbrev pub stream_fault : ScriptFault → StreamFault
stream_fault scripts.NoMemory = streams.NoMemory
stream_fault (scripts.Syntax line) = streams.Syntax line
stream_fault (scripts.OffScreen line) = streams.OffScreen line
stream_fault scripts.TooLong = streams.TooLong

-- the items were performed: their output was written, whole, and their log is taken
pub record Performs (s : Session) (items : List Item) (old new : Seen)
    (Left : Session → Type 0) : Type 0 where
  pub written : Takes old new (output s items)
  pub left : Left (after s items)

-- the same, and nothing of the output is kept back
pub record PerformsAll (s : Session) (items : List Item) (old new : Seen)
    (Left : Session → Type 0) : Type 0 where
  pub performs : Performs s items old new Left
  pub passed : new.kept ≡ []

-- it is so of the judgement of every stream that begins with these bytes, and of these alone where the reader
-- is at its end
abbrev pub WhateverFollows : Session → Given → (given : List ℕ) → (Judgement → Type 0) → Type 0
WhateverFollows s left given Holds =
    (rest : List ℕ) → (left.is_ended ≡ true → rest ≡ [])
    → Holds (judged_as s.desc.width s.desc.height (given ++ rest))

-- these are the first items of a judgement
abbrev pub AreFirstOf : List Item → Judgement → Type 0
AreFirstOf items judged = (more : List Item) × (judged.items ≡ items ++ more)

-- what was read before the last call, which gave no more than 4,096 bytes: of the lines that had ended by
-- then no more than so many items were performed
pub record IsReadBefore (s : Session) (given : List ℕ) (begun : ℕ) : Type 0 where
  pub front : List ℕ
  pub piece : List ℕ
  pub parts : given ≡ front ++ piece
  pub few : length piece ≤ 4096
  pub items : List Item
  pub performed : judged_as s.desc.width s.desc.height (up_to_last_end front) ≡ judgement items (Ok tt)
  pub earlier : length items ≤ begun

-- ---- what performing it comes to

-- Performing the script that a reader gives, from a session on. At most one byte more is read than a script
-- may have; before each call of the reader all that was written is passed on.
pub data ComesFrom (s : Session) (reader left : Given) (old new : Seen) (Left : Session → Type 0)
    (result : Result (Unit {0}) StreamFault) : Type 0 where
  -- it was read to its end, and performed
  done : (given : List ℕ) (items : List Item) → IsReadSoFar reader left given → length given ≤ 1048576
      → left.is_ended ≡ true → judged_as s.desc.width s.desc.height given ≡ judgement items (Ok tt)
      → PerformsAll s items old new Left → result ≡ Ok tt → ComesFrom s reader left old new Left result
  -- it is at fault, whatever follows; the lines before the fault were performed
  faulty : (given : List ℕ) (items : List Item) (fault : ScriptFault) → IsReadSoFar reader left given
      → length given ≤ 1048577 → WhateverFollows s left given (λ judged. judged ≡ judgement items (Err fault))
      → PerformsAll s items old new Left → result ≡ Err (stream_fault fault)
      → ComesFrom s reader left old new Left result
  -- the reader failed; the lines that had ended were performed
  broken : (given : List ℕ) (items : List Item) (mid : Given) → HasGiven reader mid given → GivesNot mid left
      → length given ≤ 1048576
      → judged_as s.desc.width s.desc.height (up_to_last_end given) ≡ judgement items (Ok tt)
      → PerformsAll s items old new Left → result ≡ Err streams.Read
      → ComesFrom s reader left old new Left result
  -- the writer failed at an item, and nothing was read after that
  cut : (given : List ℕ) (items : List Item) (begun : ℕ) → IsReadSoFar reader left given → length given ≤ 1048577
      → WhateverFollows s left given (AreFirstOf items) → IsReadBefore s given begun
      → Stops s items begun old new Left → result ≡ Err (streams.Write begun)
      → ComesFrom s reader left old new Left result
  -- the writer failed at the log of the start, before anything was read
  unwritten : left ≡ reader → Stops s [] 0 old new Left → result ≡ Err (streams.Write 0)
      → ComesFrom s reader left old new Left result
  -- memory ran out before anything was read; the log of the start was written
  unbegun : left ≡ reader → PerformsAll s [] old new Left → result ≡ Err streams.NoMemory
      → ComesFrom s reader left old new Left result

-- ---- pieces

-- the stream goes on from the bytes; it ends with them, where the reader is at its end
pub record IsBegunBy (stream : List ℕ) (left : Given) (given : List ℕ) : Type 0 where
  pub rest : List ℕ
  pub parts : stream ≡ given ++ rest
  pub alone : left.is_ended ≡ true → rest ≡ []

-- The bytes of a stream decide, and not how they were cut into pieces: two runs on it come to the same
-- judgement. So they write the same text, answer alike, and leave the same session.
abbrev pub CutsDecideNothing : Type 0
CutsDecideNothing =
    (s : Session) (stream given given' : List ℕ) (left left' : Given) (judged judged' : Judgement)
    → IsBegunBy stream left given → IsBegunBy stream left' given'
    → WhateverFollows s left given (λ it. it ≡ judged) → WhateverFollows s left' given' (λ it. it ≡ judged')
    → judged ≡ judged'
