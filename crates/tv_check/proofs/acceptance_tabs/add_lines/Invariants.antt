use Rattle.std.proofs.Common.{◌≡◌, ◌++◌, map, drop}
use Rattle.tv_check.specs.Lent.{lent_tab}
use Rattle.tv_check.proofs.acceptance_tabs.add_lines.Given as goal

abbrev pub invariant-loop-name : goal.invariant-loop-name
invariant-loop-name l = map lent_tab l.tabs.items ++ map (λ name. (l.block.dialog, name)) (drop l.name-index l.name-items) ≡ map lent_tab l.fn.tabs.items ++ map (λ name. (l.block.dialog, name)) l.block.tabs
