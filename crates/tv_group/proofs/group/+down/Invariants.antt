use Rattle.std.proofs.Common.{◌≡◌}
use Rattle.tv_group.proofs.DownLemmas.{Falling}
use Rattle.tv_group.proofs.MembersLemmas.{leaves_of}
use Rattle.tv_group.proofs.group.+down.Given as goal

abbrev pub invariant-GroupOf::down-loop-i : goal.invariant-GroupOf::down-loop-i
invariant-GroupOf::down-loop-i g l =
    let look = g.V.View.meaning in let s = l.fn.self in record {
      unvisited : goal.unvisited-GroupOf::down-loop-i g l;
      falling : Falling look l.inner l.phase l.env (leaves_of look s.current s.members.items) l.self.current l.i l.self.members.items;
      bounds : l.self.bounds ≡ s.bounds;
      level : l.self.level ≡ s.level;
      still : l.damage ≡ l.fn.damage;
    }
