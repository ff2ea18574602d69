-- What is shown of a screen: its characters or its attributes.
use Rattle.std.specs.Prelude.{ℕ, List, encode_utf8, codes}
use Rattle.tv_cells.specs.Glyph.{Glyph}
use Rattle.tv_machine.specs.Output.{hex_byte}
use Rattle.tv_script.specs.declared.shot.Aspect.{Aspect}
use Rattle.tv_script.specs.declared.shot.Aspect.TheVariants as aspects

abbrev pub aspect_word : Aspect → List ℕ
aspect_word aspects.Characters = codes "shot "
aspect_word aspects.Attributes = codes "colors "

-- a cell in a row
abbrev pub cell_text : Aspect → Glyph → List ℕ
cell_text aspects.Characters cell = encode_utf8 cell.ch
cell_text aspects.Attributes cell = hex_byte cell.attr
