-- The canonical text of a description.
use Rattle.std.specs.Prelude.{ℕ, List, map}
use Rattle.tv_model.specs.declared.desc.Desc.{Desc}
use Rattle.tv_words.specs.Canonical.{canonical_text}
use Rattle.tv_declarations.specs.declared.declaration.Declaration.{Declaration}
use Rattle.tv_declarations.specs.Spelling.Declarations.{declaration_words}
use Rattle.tv_declarations.specs.Spelling.{declarations_of}

-- the lines of these declarations
abbrev pub declarations_text : List Declaration → List ℕ
declarations_text ds = canonical_text (map declaration_words ds)

-- those of a description
abbrev pub description_text : Desc → List ℕ
description_text d = declarations_text (declarations_of d)
