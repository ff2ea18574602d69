use Rattle.std.proofs.Common.{◌≡◌, ap, subst, ◌∙◌}
use Rattle.tv_picture.specs.Pattern.{Pattern, IsShortest}
use Rattle.tv_picture.specs.Code.{pattern_of}
use Rattle.tv_picture.specs.Matching.{shortest_length}
use Rattle.tv_picture.proofs.LengthLemmas.{only_shortest, shortest_law}
use Rattle.tv_picture.proofs.picture.Picture.shortest.Goals as goal

pub returns-clause-computed : goal.returns-clause-computed
returns-clause-computed c =
    let whole : pattern_of c.deref.result.now ≡ c.args.self.now = ap pattern_of c.deref.ensures.value ∙ c.self.view_is in
    only_shortest c.args.self.now c.shortest.result (shortest_length c.args.self.now) (subst (λ (p : Pattern). IsShortest p c.shortest.result) whole c.shortest.ensures) (shortest_law c.args.self.now)
