-- Events as words and as scripts.
use Rattle.std.specs.Prelude.{[], ◌≤◌, ℕ, All, Bool, true, false, List, ◌∷◌, ◌++◌, Option, Some, None, codes, if◌then◌else◌, length, ◌==◌}
use Rattle.tv_event.specs.declared.event.Event.{Event}
use Rattle.tv_event.specs.declared.event.Event.TheVariants as events
use Rattle.tv_event.specs.declared.event.Key.TheVariants as keys
use Rattle.tv_model.specs.declared.desc.Desc.{Desc}
use Rattle.tv_model.specs.Log.LogText.{escaped_in_log}
use Rattle.tv_script.specs.Scripts.{SpellsAScript}
use Rattle.tv_script.specs.Tapes.{IsSayable, event_words, script_with}

-- the event types a character
abbrev pub is_typed : Event → Bool
is_typed (events.Key (keys.Char ch)) = true
is_typed _ = false

-- the event before types one, if there is an event before
abbrev pub is_typing : Option Event → Bool
is_typing None = false
is_typing (Some before) = is_typed before

-- what ends the event before: the quote after typed characters
abbrev pub closing : Option Event → List ℕ
closing before = if is_typing before then codes "\"" else []

-- what stands before an event that isn't the first
abbrev pub between : List ℕ → Option Event → List ℕ
between separator None = []
between separator (Some before) = separator

-- what stands before a character that is typed, unless the event before types one too
abbrev pub opening : List ℕ → Option Event → List ℕ
opening separator before = if is_typing before then [] else between separator before ++ codes "type \""

-- the character that an event types
abbrev pub typed_text : Event → List ℕ
typed_text (events.Key (keys.Char ch)) = escaped_in_log ch
typed_text _ = []

-- an event after another. Characters that are typed one after the other stand between one pair of quotes
abbrev pub next_words : List ℕ → Option Event → Event → List ℕ
next_words separator before event =
    if is_typed event then opening separator before ++ typed_text event
    else closing before ++ between separator before ++ event_words event

-- events after another
abbrev pub words_after : List ℕ → Option Event → List Event → List ℕ
words_after separator before [] = closing before
words_after separator before (event ∷ rest) =
    next_words separator before event ++ words_after separator (Some event) rest

-- a way: nothing has to be done for what is so at the start
abbrev pub way_words : List Event → List ℕ
way_words events = if length events == 0 then codes "at the start" else words_after (codes "; ") None events

-- events as a script
abbrev pub script_text : List Event → List ℕ
script_text events = if length events == 0 then [] else words_after (10 ∷ []) None events ++ (10 ∷ [])

-- a script for the screen of the description can say these events
abbrev pub AreSayable : Desc → List Event → Type 0
AreSayable d events = All (IsSayable d.width d.height) events

-- such events as a script spell the script that has them and nothing else, where there are no more of them and of its bytes than
-- a script may have
abbrev pub WaysAreScripts : Type 0
WaysAreScripts =
    (d : Desc) (events : List Event) → AreSayable d events → length events ≤ 100000 → length (script_text events) ≤ 1048576
    → SpellsAScript d.width d.height (script_text events) (script_with events)
