use Rattle.tv_menu.proofs.PlaceLemmas.{copied_at}
use Rattle.tv_menu.proofs.menus.menu_at.Goals as goal

pub returns-clause-is : goal.returns-clause-is
returns-clause-is c = copied_at c.args.menus.now c.args.place c.get.result c.get.ensures.lookup
