use Rattle.std.proofs.Common.{◌≡◌, ◌++◌, flat_map, map, drop}
use Rattle.tv_model.specs.Description.Owners.{owners_of}
use Rattle.tv_check.specs.Certificates.{key_line, keys_of}
use Rattle.tv_check.proofs.certification.keys_of.Given as goal

abbrev pub invariant-loop-letter : goal.invariant-loop-letter
invariant-loop-letter l = l.keys ++ flat_map (λ letter. map (key_line letter) (owners_of l.owners.version l.owners.dialog letter)) (drop l.letter-index l.letter-items) ≡ keys_of l.owners.version l.owners.dialog
