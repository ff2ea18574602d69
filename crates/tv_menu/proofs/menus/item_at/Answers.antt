use Rattle.tv_menu.proofs.PlaceLemmas.{copied_at}
use Rattle.tv_menu.proofs.menus.item_at.Goals as goal

pub returns-clause-is : goal.returns-clause-is
returns-clause-is c = copied_at c.args.items.now c.args.place c.get.result c.get.ensures.lookup
