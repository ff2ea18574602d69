use Rattle.std.proofs.Common.{◌≡◌, ◌++◌, map, drop}
use Rattle.tv_check.specs.Certificates.{tab_lines}
use Rattle.tv_check.specs.Lent.{lent_tab}
use Rattle.tv_check.proofs.acceptance_tabs.lines.Given as goal

abbrev pub invariant-loop-block : goal.invariant-loop-block
invariant-loop-block l = map lent_tab l.tabs.items ++ tab_lines (drop l.block-index l.blocks) ≡ tab_lines l.blocks
