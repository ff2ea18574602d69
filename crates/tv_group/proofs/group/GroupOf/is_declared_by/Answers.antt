use Rattle.tv_group.specs.Outline.{members_outline}
use Rattle.tv_group.proofs.OutlineLemmas.{used-up, not-followed}
use Rattle.tv_group.proofs.group.GroupOf.is_declared_by.Goals as goal

pub returns-in-Some : goal.returns-in-Some
returns-in-Some g c =
    used-up (members_outline g.V.View.meaning c.args.self.now 1) c.args.views.now c.in-Some.rest.now c.is_empty.result c.in-Some.ensures.some c.is_empty.ensures

pub returns-in-None : goal.returns-in-None
returns-in-None g c = (λ t. absurd cc, λ same. absurd (not-followed (members_outline g.V.View.meaning c.args.self.now 1) c.args.views.now c.in-None.ensures.none same))
