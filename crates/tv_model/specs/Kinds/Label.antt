-- Labels: a letter and a mouse down ask for the focus of what they stand for.
use Rattle.std.specs.Prelude.{[], ℕ, Bool, ◌∷◌, Some, if◌then◌else◌}
use Rattle.tv_cells.specs.Glyph.{shown}
use Rattle.tv_palette.specs.declared.role.Role.{Role}
use Rattle.tv_palette.specs.declared.role.Role.TheVariants as roles
use Rattle.tv_palette.specs.declared.role.LabelRole.{LabelRole}
use Rattle.tv_palette.specs.declared.role.LabelRole.TheVariants as label
use Rattle.tv_model.specs.declared.kind.Label.{Label}
use Rattle.tv_model.specs.declared.kind.MarkedText.{MarkedText}
use Rattle.tv_model.specs.Controls.Behaviour.{Behaviour, plain, FocusesLink}
use Rattle.tv_model.specs.Controls.Look.{Look, is_mark_from}
use Rattle.tv_model.specs.Controls.Shortcut.{LinkMark}
use Rattle.tv_model.specs.Screen.Faces.{FaceOf, text_row}

-- the role of a cell: that of the marked letter before the others
abbrev pub label_role : Look → Bool → LabelRole
label_role look is_at_letter =
    if is_at_letter then label.Letter else if look.is_linked then label.Focused else label.Normal

-- the text from the first column on
abbrev pub label_face : (Role → ℕ) → Look → MarkedText → FaceOf
label_face colour look text x y =
    shown (text_row text.text x) (colour (roles.Label (label_role look (is_mark_from 0 text.mark x))))

abbrev pub label_behaviour : Label → Behaviour
label_behaviour l = record plain {
  texts = l.text.text ∷ [];
  shortcut = LinkMark l.text l.link;
  link = Some l.link;
  down = FocusesLink l.link;
  faces = λ colour owner look width c. label_face colour look l.text ∷ [];
}
