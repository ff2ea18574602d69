use Rattle.std.proofs.Common.{[], ◌++◌}
use Rattle.tv_view.specs.Damage.{AllDrawn}
use Rattle.tv_group.proofs.FocusLemmas.{Focusing}
use Rattle.tv_group.proofs.OpenedLemmas.{opened_to}
use Rattle.tv_group.proofs.RestLemmas.{opened_from}
use Rattle.tv_group.proofs.group.+focus_to.Given as goal

abbrev pub invariant-GroupOf::focus_to-loop-i : goal.invariant-GroupOf::focus_to-loop-i
invariant-GroupOf::focus_to-loop-i g l = record {
  unvisited : goal.unvisited-GroupOf::focus_to-loop-i g l;
  focusing : Focusing g.V.View.meaning l.id l.fn.self l.current l.i l.member-items;
  damaged :
      AllDrawn (opened_from g.V.View.meaning l.fn.self.current 0 l.fn.self.members.items)
      (opened_to g.V.View.meaning l.fn.self.current l.i l.member-items
      ++ opened_from g.V.View.meaning l.fn.self.current l.i l.member-items)
      [] l.inner;
}
