use Rattle.std.proofs.Common.{rules, []}
use Rattle.tv_model.specs.Faults.{fault_at, item_has, menu_has}
use Rattle.tv_model.specs.Faults.Lines.{lines_where}
use Rattle.tv_model.proofs.EachAfterLemmas.{parts_next}
use Rattle.tv_faults.proofs.list.add_menus.Goals as goal

pub loop-i-preserved : goal.loop-i-preserved
loop-i-preserved c =
    parts_next (fault_at c.args.kind) (λ menu. menu.id.0) (menu_has c.args.kind) c.args.menus.now c.as_slice-faulty.result.now c.loop-i.i _ c.index-menus-i.result c.loop-i-test.true (search rules) c.index-menus-i.is
    (λ menu. lines_where (λ item. item.id.0) (item_has c.args.kind) [] menu.items)
    c.loop-i.found c.add_if.new.found c.add_items.new.found _ c.in_ok-add_if.ensures
    c.in_ok-add_items.ensures
    c.loop-i.invariant
