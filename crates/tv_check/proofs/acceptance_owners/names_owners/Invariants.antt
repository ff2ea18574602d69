use Rattle.std.proofs.Common.{◌≡◌, ◌↔◌, map, drop}
use Rattle.tv_check.specs.Certificates.{owners_in}
use Rattle.tv_check.specs.Lent.{lent_key_owner}
use Rattle.tv_check.proofs.acceptance_owners.names_owners.Given as goal

abbrev pub invariant-loop-line : goal.invariant-loop-line
invariant-loop-line l = (owners_in (map (λ line. line.now) l.lines) l.letter ≡ map lent_key_owner l.owners) ↔ (owners_in (map (λ line. line.now) (drop l.line-index l.lines)) l.letter ≡ map lent_key_owner l.left)
