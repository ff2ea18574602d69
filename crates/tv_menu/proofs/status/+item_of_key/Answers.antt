use Rattle.std.proofs.Common.{rules}
use Rattle.tv_menu.proofs.LawfulLemmas.{items_behind}
use Rattle.tv_menu.proofs.status.+item_of_key.Goals as goal

pub item_of_key-requires : goal.item_of_key-requires
item_of_key-requires t c =
    (search rules, items_behind c.args.items.now c.in_ok-item.others.now c.in_ok-item.item.now c.in_ok-item.ensures.cases.0 c.requires)
