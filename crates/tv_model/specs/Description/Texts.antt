-- The texts of a declaration.
use Rattle.std.specs.Prelude.{ℕ, List}
use Rattle.tv_model.specs.declared.kind.Kind.{Kind}
use Rattle.tv_model.specs.Kinds.{behaviour}

-- all that the declaration quotes, without marks
abbrev pub texts_of : Kind → List (List ℕ)
texts_of kind = (behaviour kind).texts

-- those that have to take one column a character: all, but for the line ends of a static text
abbrev pub shown_texts : Kind → List (List ℕ)
shown_texts kind = (behaviour kind).shown_texts (behaviour kind).texts
