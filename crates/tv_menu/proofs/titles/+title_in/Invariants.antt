use Rattle.tv_menu.proofs.titles.+title_in.Given as goal

abbrev pub decreases-title_in : goal.decreases-title_in
decreases-title_in l = l.column
