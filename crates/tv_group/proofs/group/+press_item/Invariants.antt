use Rattle.std.proofs.Common.{◌≡◌, [], ◌++◌, map}
use Rattle.tv_view.specs.Calls.{item_pressed}
use Rattle.tv_view.specs.Damage.{AllDrawn}
use Rattle.tv_group.specs.Calls.{in_place}
use Rattle.tv_group.proofs.OpenedLemmas.{opened_to}
use Rattle.tv_group.proofs.RestLemmas.{opened_from}
use Rattle.tv_group.proofs.group.+press_item.Given as goal

abbrev pub invariant-GroupOf::press_item-loop-member : goal.invariant-GroupOf::press_item-loop-member
invariant-GroupOf::press_item-loop-member g l = record {
  unvisited : goal.unvisited-GroupOf::press_item-loop-member g l;
  total :
      map (in_place (item_pressed l.id l.item)) (opened_from g.V.View.meaning l.fn.self.current 0 l.fn.self.members.items)
      ≡ opened_to g.V.View.meaning l.fn.self.current l.member-index l.member-items
      ++ map (in_place (item_pressed l.id l.item)) (opened_from g.V.View.meaning l.fn.self.current l.member-index l.member-items);
  damaged :
      AllDrawn (opened_from g.V.View.meaning l.fn.self.current 0 l.fn.self.members.items)
      (opened_to g.V.View.meaning l.fn.self.current l.member-index l.member-items
      ++ opened_from g.V.View.meaning l.fn.self.current l.member-index l.member-items)
      [] l.inner;
}
