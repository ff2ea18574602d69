use Rattle.tv_group.proofs.SearchLemmas.{Sought}
use Rattle.tv_group.proofs.group.+search.Given as goal

abbrev pub invariant-GroupOf::search-loop-k : goal.invariant-GroupOf::search-loop-k
invariant-GroupOf::search-loop-k g l = Sought g.V.View.meaning l.dir l.fn.from l.search l.k l.self
