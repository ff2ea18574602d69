-- What a label is by its kind, and the attribute of its text.
use Rattle.std.specs.Prelude.{Bool, true, false, if◌then◌else◌}
use Rattle.tv_model.specs.declared.kind.Kind.{Kind}
use Rattle.tv_model.specs.declared.kind.Kind.TheVariants as kinds
use Rattle.tv_palette.specs.declared.role.LabelRole.{LabelRole}
use Rattle.tv_palette.specs.declared.role.LabelRole.TheVariants as label

-- the kind of a label
abbrev pub is_label : Kind → Bool
is_label (kinds.Label label) = true
is_label _ = false

-- the role of the text but for its marked letter, by whether the link has the focus
abbrev pub label_text_role : Bool → LabelRole
label_text_role is_linked = if is_linked then label.Focused else label.Normal
