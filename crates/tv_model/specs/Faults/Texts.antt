-- Faults of texts: F14.
use Rattle.std.specs.Prelude.{ℕ, Bool, not, List}
use Rattle.std.specs.List.{list_any}
use Rattle.tv_cells.specs.Glyph.{is_narrow}
use Rattle.tv_model.specs.declared.node.Node.{Node}
use Rattle.tv_model.specs.Description.Texts.{shown_texts}

-- whether a character of the text takes no column, or two
abbrev pub is_wide_text : List ℕ → Bool
is_wide_text text = list_any (λ ch. not (is_narrow ch)) text

-- F14: a text with a character whose width isn't 1
abbrev pub has_wide : Node → Bool
has_wide node = list_any is_wide_text (shown_texts node.kind)
