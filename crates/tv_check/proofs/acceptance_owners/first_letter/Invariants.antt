use Rattle.std.proofs.Common.{All, map, take}
use Rattle.tv_check.specs.Certificates.{NamesOwner}
use Rattle.tv_check.proofs.acceptance_owners.first_letter.Given as goal

abbrev pub invariant-loop-letter : goal.invariant-loop-letter
invariant-loop-letter l = All (NamesOwner l.owners.version (map (λ line. line.now) l.lines) l.owners.dialog) (take l.letter-index l.letter-items)
