-- Static texts.
use Rattle.std.specs.Prelude.{[], not, ◌∷◌, filter, map}
use Rattle.tv_palette.specs.declared.role.Role.TheVariants as roles
use Rattle.tv_model.specs.declared.kind.StaticText.{StaticText}
use Rattle.tv_model.specs.Controls.Behaviour.{Behaviour, plain}
use Rattle.tv_model.specs.Screen.Faces.{is_line_end, text_face}

abbrev pub static_text : StaticText → Behaviour
static_text shown = record plain {
  rows = shown.h;
  texts = shown.text ∷ [];
  shown_texts = map (filter (λ ch. not (is_line_end ch)));
  faces = λ colour owner look width c. text_face shown.text (colour (roles.StaticText owner)) ∷ [];
}
