-- A dialog and a window that are dragged by their top rows.
use Prim.Native.String.{String}
use Rattle.std.specs.Prelude.{◌≡◌, [], List, ◌∷◌, ◌++◌, Err, pos}
use Rattle.std.proofs.Common.{refl}
use Rattle.tv_script.specs.declared.script_text.ScriptFault.TheVariants.{OffScreen}
use Rattle.tv_script.specs.Judging.{judged_as}
use Rattle.tv_examples.specs.Descriptions.{cancel, windows}
use Rattle.tv_examples.specs.Running.{written, text, Writes}

-- Esc does nothing while the dialog is dragged; a click on its button finds it where it stands then
dialog_dragged : Writes cancel ("down 8 2" ∷ "key Esc" ∷ "move 0 0" ∷ "up 0 0" ∷ "shot" ∷ "down 5 2" ∷ "up 5 2" ∷ []) (
    "open a" ∷ "focus c" ∷
    "moved a -6 1" ∷
    "shot 20 10" ∷
    ":                    :" ∷
    ":Q =====+............:" ∷
    ":ncel > |............:" ∷
    ":       |............:" ∷
    ":=======+............:" ∷
    ":....................:" ∷
    ":....................:" ∷
    ":....................:" ∷
    ":....................:" ∷
    ":                    :" ∷
    "press c" ∷ "end a cancel" ∷ [])
unfolding written
dialog_dragged = refl

-- a down on the window behind only brings it to the front, and a down and an up at one place move nothing
window_dragged : Writes windows ("down 13 3" ∷ "up 2 9" ∷ "down 3 1" ∷ "down 7 1" ∷ "up 7 1" ∷ []) (
    "moved two -3 8" ∷ [])
unfolding written
window_dragged = refl

-- ---- an up that isn't on the screen

-- cases/drag-01.tvd
abbrev question : List String
question =
    "tvd 1"
    ∷ "screen 24 10"
    ∷ "start d"
    ∷ "dialog d 4 2 14 5 \"Ask\" ends ok cancel"
    ∷ "button k 1 1 6 \"~O~k\" ok default"
    ∷ "button n 1 3 8 \"~N~o\" cancel"
    ∷ "end"
    ∷ []

abbrev dragging : List String
dragging = "down 15 2" ∷ "move 20 4" ∷ "shot" ∷ []

-- the line is faulty
up_beside_screen : (judged_as (pos 24) (pos 10) (text (dragging ++ "" ∷ "# off the screen" ∷ "up 24 4" ∷ "shot" ∷ []))).answer ≡ Err (OffScreen 6)
unfolding written
up_beside_screen = refl

-- what was written before it: the dialog is still held, and no line tells that it moved
held_at_fault : Writes question dragging (
    "open d" ∷ "focus k" ∷
    "shot 24 10" ∷
    ":                        :" ∷
    ":........................:" ∷
    ":........................:" ∷
    ":........................:" ∷
    ":.........+=[x] As ====+.:" ∷
    ":.........|< Ok >      |.:" ∷
    ":.........|            |.:" ∷
    ":.........|[  No  ]    |.:" ∷
    ":.........+============+.:" ∷
    ":                        :" ∷ [])
unfolding written
held_at_fault = refl
