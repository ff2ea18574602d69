use Rattle.std.proofs.Common.{length}
use Rattle.tv_menu.proofs.bar_face.+write_titles.Given as goal

abbrev pub decreases-write_titles : goal.decreases-write_titles
decreases-write_titles l = length l.titles.menus.now
