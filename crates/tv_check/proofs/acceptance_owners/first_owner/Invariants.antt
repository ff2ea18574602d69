use Rattle.std.proofs.Common.{All, take}
use Rattle.tv_check.specs.Certificates.{NamesOwners}
use Rattle.tv_check.proofs.acceptance_owners.first_owner.Given as goal

abbrev pub invariant-loop-dialog : goal.invariant-loop-dialog
invariant-loop-dialog l = All (NamesOwners l.desc.version l.blocks) (take l.dialog-index l.dialog-items)
