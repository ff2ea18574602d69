use Rattle.std.proofs.Common.{◌≡◌, ◌++◌, map, drop}
use Rattle.tv_check.specs.Certificates.{key_lines}
use Rattle.tv_check.proofs.acceptance_owners.key_lines.Given as goal

abbrev pub invariant-loop-block : goal.invariant-loop-block
invariant-loop-block l = map (λ line. line.now) l.lines.items ++ key_lines (drop l.block-index l.blocks) l.dialog ≡ key_lines l.blocks l.dialog
