-- A dialog with one button, and with two.
use Rattle.std.specs.Prelude.{[], ◌∷◌}
use Rattle.std.proofs.Common.{refl}
use Rattle.tv_examples.specs.Descriptions.{cancel, inserted, removed}
use Rattle.tv_examples.specs.Running.{written, Writes}

-- examples/cancel.{tvs,out}
cancel_dialog : Writes cancel ("key Tab" ∷ "shot" ∷ "key Esc" ∷ []) (
    "open a" ∷ "focus c" ∷
    "shot 20 10" ∷
    ":                    :" ∷
    ":....................:" ∷
    ":..+=[x] Q =====+....:" ∷
    ":..| < Cancel > |....:" ∷
    ":..|            |....:" ∷
    ":..+============+....:" ∷
    ":....................:" ∷
    ":....................:" ∷
    ":....................:" ∷
    ":                    :" ∷
    "end a cancel" ∷ [])
unfolding written
cancel_dialog = refl

-- Tab and Shift-Tab move between two buttons; Space and Enter press the focused one
two_buttons : Writes (inserted 5 "button g 2 2 10 \"~G~o\" 120" cancel) ("key Tab" ∷ "type \" \"" ∷ "key Enter" ∷ "key Shift-Tab" ∷ "key Enter" ∷ "key Tab" ∷ []) (
    "open a" ∷ "focus c" ∷ "focus g" ∷ "press g" ∷ "command 120" ∷ "press g" ∷ "command 120" ∷
    "focus c" ∷ "press c" ∷ "end a cancel" ∷ [])
unfolding written
two_buttons = refl

-- without a start dialog nothing is written
nothing_starts : Writes (removed 3 cancel) [] []
unfolding written
nothing_starts = refl
