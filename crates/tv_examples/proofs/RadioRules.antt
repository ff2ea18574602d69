-- Radio buttons that enable a button.
use Rattle.std.specs.Prelude.{[], ◌∷◌}
use Rattle.std.proofs.Common.{refl}
use Rattle.tv_examples.specs.Descriptions.{colour_form}
use Rattle.tv_examples.specs.Running.{written, Writes}

-- a button is disabled while its rule does not hold
radio_rules : Writes colour_form (
    "key Down" ∷ "key Alt-Y" ∷ "type \"y\"" ∷ "key Enter" ∷ "key Tab" ∷ "key Tab" ∷ "key Up" ∷
    "type \"y\"" ∷ []) ("open d" ∷ "focus r" ∷ "focus n" ∷ "focus r" ∷ "press y" ∷ "end d yes" ∷ "field r 2" ∷ [])
unfolding written
radio_rules = refl

-- while a button holds the mouse keys are dropped; an up beside it presses nothing
held_button : Writes colour_form ("down 4 5" ∷ "key Esc" ∷ "move 25 9" ∷ "down 5 3" ∷ "up 25 9" ∷ "key Esc" ∷ []) ("open d" ∷ "focus r" ∷ "end d cancel" ∷ "field r 2" ∷ [])
unfolding written
held_button = refl
