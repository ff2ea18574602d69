use Rattle.std.proofs.Common.{◌≡◌, ◌++◌, map, drop}
use Rattle.tv_check.proofs.acceptance_owners.add_keys.Given as goal

abbrev pub invariant-loop-line : goal.invariant-loop-line
invariant-loop-line l = map (λ line. line.now) l.lines.items ++ drop l.line-index l.line-items ≡ map (λ line. line.now) l.fn.lines.items ++ l.block.keys
