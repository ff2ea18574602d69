use Rattle.std.proofs.Common.{◌≡◌, ◌++◌, length, map, option_copied}
use Rattle.tv_cells.specs.Glyph.{shown_char}
use Rattle.tv_faces.specs.Looks.{pieces_left, shown_pieces}
use Rattle.tv_faces.proofs.pieced_text.pieces.Given as goal

abbrev pub invariant-loop-left : goal.invariant-loop-left
invariant-loop-left l = l.pieces.items ++ map (map shown_char) (pieces_left (option_copied l.left)) ≡ shown_pieces l.text

abbrev pub decreases-loop-left : goal.decreases-loop-left
decreases-loop-left l = length (pieces_left (option_copied l.left))
