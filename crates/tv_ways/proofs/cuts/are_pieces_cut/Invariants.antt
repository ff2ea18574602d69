use Rattle.std.proofs.Common.{◌≡◌, length, option_copied}
use Rattle.tv_faces.specs.Looks.{pieces_left}
use Rattle.tv_model.specs.Screen.Faces.{pieces_of}
use Rattle.tv_ways.specs.Cuts.{are_pieces_cut}
use Rattle.tv_ways.proofs.cuts.are_pieces_cut.Given as goal

abbrev pub invariant-loop-left : goal.invariant-loop-left
invariant-loop-left l =
    are_pieces_cut l.width l.rows_left (pieces_left (option_copied l.left)) ≡ are_pieces_cut l.width l.rows (pieces_of l.text)

abbrev pub decreases-loop-left : goal.decreases-loop-left
decreases-loop-left l = length (pieces_left (option_copied l.left))
