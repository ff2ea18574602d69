-- Reading where a node stands, and the texts of which one letter may be marked.
use Rattle.std.specs.Prelude.{Option, option_and_then}
use Rattle.tv_model.specs.declared.kind.MarkedText.{MarkedText}
use Rattle.tv_model.specs.declared.node.Node.{Node}
use Rattle.tv_model.specs.declared.kind.Kind.{Kind}
use Rattle.tv_declarations.specs.declared.place.Place.{Place}
use Rattle.tv_declarations.specs.declared.place.Position.{Position}
use Rattle.tv_words.specs.declared.word.Word.{Word}
use Rattle.tv_words.specs.Fields.{text_in}
use Rattle.tv_declarations.specs.Reading.Options.{with3}
use Rattle.tv_words.specs.Reading.Numbers.{number_in}
use Rattle.tv_declarations.specs.Reading.Marks.{marked_text_in}

-- the place that the three numbers say
abbrev pub place_from : Word → Word → Word → Option Place
place_from x y w = with3 (λ x y w. record { x = x; y = y; w = w }) (number_in x) (number_in y) (number_in w)

-- a node of the kind at this position and place
abbrev pub node_at : Position → Place → Kind → Node
node_at at p kind = record { id = at.id; depth = at.depth; x = p.x; y = p.y; w = p.w; kind = kind }

-- the marked text of a quoted word
abbrev pub mark_in : Word → Option MarkedText
mark_in w = option_and_then marked_text_in (text_in w)
