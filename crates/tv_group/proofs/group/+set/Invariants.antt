use Rattle.std.proofs.Common.{◌≡◌, [], ◌++◌, map, None}
use Rattle.tv_view.specs.Calls.{set_from}
use Rattle.tv_view.specs.Damage.{AllDrawn}
use Rattle.tv_group.specs.Calls.{FitsAll, in_place_unmarked}
use Rattle.tv_group.proofs.HeightLemmas.{group_height, member_height}
use Rattle.tv_group.proofs.OpenedLemmas.{opened_to}
use Rattle.tv_group.proofs.RestLemmas.{opened_from}
use Rattle.tv_group.proofs.group.+set.Given as goal

abbrev pub decreases-GroupOf::set : goal.decreases-GroupOf::set
decreases-GroupOf::set g l = group_height l.self.now

abbrev pub decreases-MemberOf::set : goal.decreases-MemberOf::set
decreases-MemberOf::set g l = member_height l.self.now

abbrev pub invariant-GroupOf::set-loop-member : goal.invariant-GroupOf::set-loop-member
invariant-GroupOf::set-loop-member g l = record {
  unvisited : goal.unvisited-GroupOf::set-loop-member g l;
  fits : FitsAll l.values (opened_from g.V.View.meaning l.fn.self.current l.member-index l.member-items);
  total :
      map (in_place_unmarked (set_from l.values)) (opened_from g.V.View.meaning l.fn.self.current 0 l.fn.self.members.items)
      ≡ opened_to g.V.View.meaning None l.member-index l.member-items
      ++ map (in_place_unmarked (set_from l.values)) (opened_from g.V.View.meaning l.fn.self.current l.member-index l.member-items);
  damaged :
      AllDrawn (opened_from g.V.View.meaning l.fn.self.current 0 l.fn.self.members.items)
      (opened_to g.V.View.meaning None l.member-index l.member-items
      ++ opened_from g.V.View.meaning l.fn.self.current l.member-index l.member-items)
      [] l.inner;
}
