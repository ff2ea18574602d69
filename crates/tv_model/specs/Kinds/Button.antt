-- Buttons: Space, a letter and a release of the mouse press them, and then their command is given.
use Rattle.std.specs.Prelude.{[], ℕ, Bool, true, false, ◌∷◌, Some, pos, ◌==◌, if◌then◌else◌}
use Rattle.tv_event.specs.declared.event.Key.{Key}
use Rattle.tv_event.specs.declared.event.Key.TheVariants as keys
use Rattle.tv_palette.specs.declared.role.Role.{Role}
use Rattle.tv_palette.specs.declared.role.Role.TheVariants as roles
use Rattle.tv_model.specs.declared.kind.Button.{Button}
use Rattle.tv_model.specs.declared.kind.MarkedText.{MarkedText}
use Rattle.tv_model.specs.Controls.Behaviour.{Behaviour, plain, Passed, Presses, Grips}
use Rattle.tv_model.specs.Controls.Look.{Look}
use Rattle.tv_model.specs.Controls.Shortcut.{PressMark}
use Rattle.tv_model.specs.Screen.Faces.{FaceOf, ButtonLook, button_role, button_cells}

-- a space presses the button that has the focus
abbrev pub is_press : Key → Bool
is_press (keys.Char ch) = ch == 32
is_press _ = false

-- a button stands as a leaf does
abbrev pub button_look : Look → ButtonLook
button_look look = record {
  is_focused = look.is_focused;
  is_default_now = look.is_default_now;
  is_disabled = look.is_disabled;
}

-- one attribute for the marked letter, and one for the rest
abbrev pub button_colour : (Role → ℕ) → Look → Bool → ℕ
button_colour colour look is_at_letter = colour (roles.Button (button_role (button_look look) is_at_letter))

-- the text in the middle, between brackets
abbrev pub button_face : (Role → ℕ) → Look → ℕ → MarkedText → FaceOf
button_face colour look width text =
    button_cells width text.text text.mark look.is_default_now (button_colour colour look true)
    (button_colour colour look false)

abbrev pub button_behaviour : Button → Behaviour
button_behaviour button = record plain {
  name = Some button.name;
  least_width = pos 4;
  texts = button.text.text ∷ [];
  shortcut = PressMark button.text button.name;
  is_control = true;
  command = Some button.command;
  is_default = button.is_default;
  key = λ k c. if is_press k then Presses else Passed;
  down = Grips button.grabs;
  up = λ item row c. Presses;
  faces = λ colour owner look width c. button_face colour look width button.text ∷ [];
}
