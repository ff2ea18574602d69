use Rattle.tv_menu.proofs.titles.+columns_before.Given as goal

abbrev pub decreases-columns_before : goal.decreases-columns_before
decreases-columns_before l = l.place
