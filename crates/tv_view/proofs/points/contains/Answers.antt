use Rattle.tv_view.proofs.PointLemmas.{is_in-test}
use Rattle.tv_view.proofs.points.contains.Goals as goal

pub returns : goal.returns
returns c = is_in-test c.args.rect c.args.point.x c.args.point.y c.contains.result c.contains.ensures
