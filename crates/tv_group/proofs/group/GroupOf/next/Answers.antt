use Rattle.std.proofs.Common.{ap, ◌∙◌}
use Rattle.tv_group.specs.Opened.{opened}
use Rattle.tv_group.specs.Searching.{found_in}
use Rattle.tv_group.proofs.SearchLemmas.{next-found}
use Rattle.tv_group.proofs.group.GroupOf.next.Goals as goal

pub returns : goal.returns
returns g c = c.found.ensures ∙ ap found_in c.search.ensures ∙ next-found c.args.dir (opened g.V.View.meaning c.args.self.now)
