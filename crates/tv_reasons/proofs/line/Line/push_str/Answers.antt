use Rattle.std.specs.Str.{chars}
use Rattle.tv_reasons.proofs.CutLemmas.{still_line}
use Rattle.tv_reasons.proofs.line.Line.push_str.Goals as goal

pub invariant_of-self : goal.invariant_of-self
invariant_of-self c = rw c.push_str.ensures (still_line c.self.inside.chars.items (chars c.args.more.now) c.self.invariant.1)
