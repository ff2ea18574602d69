use Rattle.std.proofs.Common.{◌≡◌, ◌++◌, map, drop}
use Rattle.tv_check.specs.Certificates.{key_line}
use Rattle.tv_check.specs.Lent.{lent_key_owner}
use Rattle.tv_check.proofs.certification.add_keys.Given as goal

abbrev pub invariant-loop-owner : goal.invariant-loop-owner
invariant-loop-owner l = l.keys ++ map (key_line l.letter) (map lent_key_owner (drop l.owner-index l.owners)) ≡ l.fn.keys ++ map (key_line l.letter) (map lent_key_owner l.owners)
