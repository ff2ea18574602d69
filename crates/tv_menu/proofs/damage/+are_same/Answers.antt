use Rattle.tv_menu.proofs.DamageLemmas.{same-more}
use Rattle.tv_menu.proofs.damage.+are_same.Goals as goal

pub returns-then-is_enabled : goal.returns-then-is_enabled
returns-then-is_enabled t c =
    same-more c.args.old.now c.args.new.now c.args.items.now c.in-Some.others.now c.in-Some.item.now c.are_same.result c.is_enabled.result c.is_enabled-in-Some.result c.in-Some.ensures.cases.0
    c.is_enabled.ensures.is c.is_enabled-in-Some.ensures.is c.if-is_enabled.true c.are_same.ensures
