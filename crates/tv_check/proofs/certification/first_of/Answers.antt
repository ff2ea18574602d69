use Rattle.std.proofs.Common.{drop, drop-cons, arith}
use Rattle.tv_check.proofs.certification.first_of.Goals as goal

pub returns-in-len1-up : goal.returns-in-len1-up
returns-in-len1-up c = (drop 1 c.args.found.now, drop-cons c.args.found.now 0 _ (omega (arith, c.in-len1-up.len_at_least)))
