use Rattle.tv_menu.proofs.spot.+spot_in.Given as goal

abbrev pub decreases-spot_in : goal.decreases-spot_in
decreases-spot_in l = l.column
