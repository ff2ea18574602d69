use Rattle.std.proofs.Common.{ap, ◌∙◌}
use Rattle.tv_group.specs.Opened.{opened}
use Rattle.tv_group.specs.Searching.{found_in}
use Rattle.tv_group.proofs.SearchLemmas.{first-found}
use Rattle.tv_group.proofs.group.GroupOf.first.Goals as goal

pub returns : goal.returns
returns g c = c.found.ensures ∙ ap found_in c.search.ensures ∙ first-found c.args.dir (opened g.V.View.meaning c.args.self.now)
