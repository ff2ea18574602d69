-- A button that is reached by its letter, by the focus and by Enter.
use Rattle.std.specs.Prelude.{[], ◌∷◌}
use Rattle.std.proofs.Common.{refl}
use Rattle.tv_examples.specs.Descriptions.{two_panes}
use Rattle.tv_examples.specs.Running.{written, Writes}

button_reached : Writes two_panes ("key Alt-G" ∷ "type \"g\"" ∷ "key Tab" ∷ "key Up" ∷ "key Enter" ∷ []) (
    "open a" ∷ "focus x" ∷ "press y" ∷ "command 120" ∷ "press y" ∷ "command 120" ∷ "focus y" ∷
    "press y" ∷ "command 120" ∷ [])
unfolding written
button_reached = refl
