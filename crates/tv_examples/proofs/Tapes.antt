-- What a user did, as the lines of a script.
use Rattle.std.specs.Prelude.{◌≡◌, [], ◌∷◌, pos}
use Rattle.std.proofs.Common.{refl}
use Rattle.tv_event.specs.declared.event.Event.TheVariants as events
use Rattle.tv_event.specs.declared.event.Key.TheVariants as keys
use Rattle.tv_model.specs.Log.LogText.{line_of}
use Rattle.tv_script.specs.Tapes.{event_line, script_text}
use Rattle.tv_examples.specs.Running.{written, text}

a_key : event_line (events.Key keys.CtrlPageDown) ≡ text ("key Ctrl-PgDn" ∷ [])
unfolding line_of written
a_key = refl

a_letter : event_line (events.Key (keys.Alt 71)) ≡ text ("key Alt-G" ∷ [])
unfolding line_of written
a_letter = refl

a_function : event_line (events.Key (keys.Function 10)) ≡ text ("key F10" ∷ [])
unfolding line_of written
a_function = refl

-- a quote is escaped
a_quote : event_line (events.Key (keys.Char 34)) ≡ text ("type \"\\\"\"" ∷ [])
unfolding line_of written
a_quote = refl

-- a character of two bytes
two_bytes : event_line (events.Key (keys.Char 233)) ≡ text ("type \"é\"" ∷ [])
unfolding line_of written
two_bytes = refl

a_drag : script_text (events.Down (record { x = pos 7; y = pos 3 }) ∷ events.Move (record { x = pos 0; y = pos 11 }) ∷ events.Up (record { x = pos 0; y = pos 11 }) ∷ [])
    ≡ text ("down 7 3" ∷ "move 0 11" ∷ "up 0 11" ∷ [])
unfolding line_of written
a_drag = refl
