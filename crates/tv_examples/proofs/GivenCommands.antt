-- Commands that the program gives: done as if a user had chosen them.
use Rattle.std.specs.Prelude.{[], ◌∷◌}
use Rattle.std.proofs.Common.{refl}
use Rattle.tv_event.specs.Commands.{cm_ok, cm_quit, cm_yes}
use Rattle.tv_examples.specs.Descriptions.{colour_form, menus, order}
use Rattle.tv_examples.specs.Running.{written, Logs}

-- the dialog that the command opens
opens_dialog : Logs order ("key Esc" ∷ []) 100 ("open b" ∷ "focus amount" ∷ [])
unfolding written
opens_dialog = refl

-- none opens over another
one_dialog : Logs order [] 100 ("command 100" ∷ [])
unfolding written
one_dialog = refl

-- a disabled end doesn't end the dialog, and an enabled one does
disabled_end : Logs colour_form ("key Alt-R" ∷ []) cm_yes []
unfolding written
disabled_end = refl

enabled_end : Logs colour_form [] cm_yes ("end d yes" ∷ "field r 2" ∷ [])
unfolding written
enabled_end = refl

-- an input may refuse it
refused_end : Logs order ("key Alt-G" ∷ []) cm_ok ("invalid qty" ∷ [])
unfolding written
refused_end = refl

-- nothing is done while a button holds the mouse
held : Logs order ("down 28 9" ∷ []) 120 []
unfolding written
held = refl

let_go : Logs order ("down 28 9" ∷ "up 0 0" ∷ []) 120 ("command 120" ∷ [])
unfolding written
let_go = refl

-- nor while a frame is held by its top row
frame_held : Logs order ("down 10 2" ∷ []) 120 []
unfolding written
frame_held = refl

-- an open menu closes, so that `quit` is done
menu_closes : Logs menus ("key F10" ∷ []) cm_quit ("quit" ∷ [])
unfolding written
menu_closes = refl

-- nothing is done once the run is over
over : Logs menus ("key Alt-F" ∷ "key Up" ∷ "key Enter" ∷ []) 101 []
unfolding written
over = refl
