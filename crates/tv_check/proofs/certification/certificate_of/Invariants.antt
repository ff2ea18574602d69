use Rattle.std.proofs.Common.{◌≡◌, ◌++◌, map, drop}
use Rattle.tv_check.specs.Certificates.{block_of, certificate_of}
use Rattle.tv_check.proofs.certification.certificate_of.Given as goal

abbrev pub invariant-loop-dialog : goal.invariant-loop-dialog
invariant-loop-dialog l = l.blocks ++ map (block_of l.desc.version) (drop l.dialog-index l.dialog-items) ≡ (certificate_of l.desc).blocks
