use Rattle.std.proofs.Common.{◌≡◌}
use Rattle.tv_group.proofs.MembersLemmas.{leaves_of}
use Rattle.tv_group.proofs.ScanLemmas.{Scanning}
use Rattle.tv_group.proofs.group.+scan.Given as goal

abbrev pub invariant-GroupOf::scan-loop-member : goal.invariant-GroupOf::scan-loop-member
invariant-GroupOf::scan-loop-member g l =
    let look = g.V.View.meaning in let s = l.fn.self in record {
      unvisited : goal.unvisited-GroupOf::scan-loop-member g l;
      scanning : Scanning look l.inner l.phase l.env (leaves_of look s.current s.members.items) s.current l.member-index l.member-items;
      still : l.damage ≡ l.fn.damage;
    }
