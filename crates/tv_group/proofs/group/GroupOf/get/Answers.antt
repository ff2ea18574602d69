use Rattle.std.proofs.Common.{◌∙◌}
use Rattle.tv_group.specs.Opened.{opened}
use Rattle.tv_group.proofs.GatheredLemmas.{gathered-all}
use Rattle.tv_group.proofs.group.GroupOf.get.Goals as goal

pub returns : goal.returns
returns g c = c.gather.ensures ∙ gathered-all (opened g.V.View.meaning c.args.self.now) c.args.values.now c.requires
