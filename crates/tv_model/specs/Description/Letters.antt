-- Letters that are marked.
use Rattle.std.specs.Prelude.{ℕ, Bool, ◌&&◌, List, nat_le}
use Rattle.std.specs.List.{list_any}
use Rattle.tv_model.specs.declared.kind.Kind.{Kind}
use Rattle.tv_model.specs.declared.kind.MarkedText.{MarkedText}
use Rattle.tv_model.specs.declared.desc.Dialog.{Dialog}
use Rattle.tv_model.specs.Controls.Shortcut.{marked_in}
use Rattle.tv_model.specs.Kinds.{behaviour}
use Rattle.tv_model.specs.Description.Marks.{marks}

-- the texts of a declaration in which a letter may be marked
abbrev pub marked_of : Kind → List MarkedText
marked_of kind = marked_in (behaviour kind).shortcut

-- a shortcut of the dialog
abbrev pub is_shortcut : ℕ → Dialog → Bool
is_shortcut letter dialog = list_any (λ node. list_any (marks letter) (marked_of node.kind)) dialog.views

-- A to Z
abbrev pub is_capital : ℕ → Bool
is_capital ch = nat_le 65 ch && nat_le ch 90

-- 0 to 9
abbrev pub is_digit : ℕ → Bool
is_digit ch = nat_le 48 ch && nat_le ch 57
