-- What a terminal sends, as keys, characters and the mouse.
use Rattle.std.specs.Prelude.{ℕ, ◌≡◌, Bool, true, false, not, ◌&&◌, ◌||◌, nat_lt, ◌==◌, bytes_eq, List, [], ◌∷◌, ◌++◌}
use Rattle.std.specs.Prelude.{take, length, codes, Option, Some, None, if◌then◌else◌}
use Rattle.tv_event.specs.declared.event.Event.TheVariants as events
use Rattle.tv_event.specs.declared.event.Key.TheVariants as keys
use Rattle.tv_terminal.specs.declared.action.Action.{Action}
use Rattle.tv_terminal.specs.declared.action.Action.TheVariants.{Event, Quit}
use Rattle.tv_terminal.specs.declared.reading.Reading.{Reading}
use Rattle.tv_terminal.specs.declared.reading.Reading.TheVariants.{Unfinished, Whole, Broken}
use Rattle.tv_terminal.specs.Table.{key_action}
use Rattle.tv_terminal.specs.Sequences.{reading_of}

-- a byte, or that for a while none came
pub data Symbol : Type 0 where
  Byte : ℕ → Symbol
  Pause : Symbol

-- A sequence of more than 32 bytes means nothing.
abbrev pub most : ℕ
most = 32

-- What unfinished bytes are where a pause or ESC follows: ESC alone is the key, ESC O is Alt-O
abbrev pub at_pause : List ℕ → Option Action
at_pause (a ∷ []) = if a == 27 then Some (key_action keys.Esc) else None
at_pause (a ∷ b ∷ []) = if a == 27 && b == 79 then Some (key_action (keys.Alt 79)) else None
at_pause _ = None

-- what a byte gives that begins anew, and what it leaves unfinished
abbrev pub anew_given : Reading → Option Action
anew_given (Whole action) = action
anew_given _ = None

abbrev pub anew_kept : ℕ → Reading → List ℕ
anew_kept b Unfinished = b ∷ []
anew_kept b _ = []

-- what the unfinished bytes and one more mean. A byte that can't go on with them begins anew
abbrev pub given_as : Reading → List ℕ → ℕ → Option Action
given_as Unfinished bytes b = None
given_as (Whole action) bytes b = if nat_lt (length bytes) most then action else None
given_as Broken bytes b = if b == 27 then at_pause bytes else anew_given (reading_of (b ∷ []))

abbrev pub given : List ℕ → ℕ → Option Action
given bytes b = given_as (reading_of (bytes ++ b ∷ [])) bytes b

-- Ctrl-\ and Ctrl-C are what they are, whatever is unfinished before them, and Ctrl-\ within a paste too
pub record HearsLeaving (is_pasting : Bool) (byte : ℕ) (action : Option Action) : Type 0 where
  pub quit : byte ≡ 28 → action ≡ Some Quit
  pub interrupt : byte ≡ 3 → is_pasting ≡ false → action ≡ Some (key_action (keys.Ctrl 67))

-- what they leave unfinished; of a sequence that is too long no more is needed
abbrev pub left_open_as : Reading → List ℕ → ℕ → List ℕ
left_open_as Unfinished bytes b = take most (bytes ++ b ∷ [])
left_open_as (Whole action) bytes b = []
left_open_as Broken bytes b = anew_kept b (reading_of (b ∷ []))

abbrev pub left_open : List ℕ → ℕ → List ℕ
left_open bytes b = left_open_as (reading_of (bytes ++ b ∷ [])) bytes b

-- an action, if there is one, before others
abbrev pub before : Option Action → List Action → List Action
before None actions = actions
before (Some action) actions = action ∷ actions

-- ---- pastes

-- ESC [ 200 ~ stands before a pasted text, and ESC [ 201 ~ behind it
abbrev pub paste_begin : List ℕ
paste_begin = 27 ∷ codes "[200~"

abbrev pub paste_end : List ℕ
paste_end = 27 ∷ codes "[201~"

-- whether a paste goes on after some bytes
abbrev pub pasting_after : (was : Bool) → List ℕ → Bool
pasting_after was bytes =
    if bytes_eq bytes paste_begin then true else if bytes_eq bytes paste_end then false else was

-- within a paste characters alone are heard, and Ctrl-\, by which the user can always leave
abbrev pub is_pasted : Action → Bool
is_pasted (Event (events.Key (keys.Char c))) = true
is_pasted Quit = true
is_pasted _ = false

abbrev pub heard_while : (is_pasting : Bool) → Option Action → Option Action
heard_while is_pasting None = None
heard_while is_pasting (Some action) = if is_pasted action || not is_pasting then Some action else None

-- ---- whole streams

-- what came so far leaves: unfinished bytes, and a paste that goes on
pub record Listening : Type 0 where
  pub bytes : List ℕ
  pub is_pasting : Bool

-- nothing unfinished
abbrev pub between : (is_pasting : Bool) → Listening
between is_pasting = record { bytes = []; is_pasting = is_pasting }

abbrev pub heard : Listening → ℕ → Option Action
heard l b = heard_while l.is_pasting (given l.bytes b)

abbrev pub left_by : Listening → ℕ → Listening
left_by l b = record { bytes = left_open l.bytes b; is_pasting = pasting_after l.is_pasting (l.bytes ++ b ∷ []) }

abbrev pub heard_at_pause : Listening → Option Action
heard_at_pause l = heard_while l.is_pasting (at_pause l.bytes)

-- what symbols give after those that left this, and what they leave
abbrev pub decode_after : Listening → List Symbol → List Action
decode_after l [] = []
decode_after l (Byte b ∷ symbols) = before (heard l b) (decode_after (left_by l b) symbols)
decode_after l (Pause ∷ symbols) = before (heard_at_pause l) (decode_after (between l.is_pasting) symbols)

abbrev pub left_after : Listening → List Symbol → Listening
left_after l [] = l
left_after l (Byte b ∷ symbols) = left_after (left_by l b) symbols
left_after l (Pause ∷ symbols) = left_after (between l.is_pasting) symbols

-- what a terminal's symbols give
abbrev pub decode : List Symbol → List Action
decode symbols = decode_after (between false) symbols

-- what they leave
abbrev pub left : List Symbol → Listening
left symbols = left_after (between false) symbols
