use Rattle.tv_view_tests.proofs.FitLemmas.{fits_fresh}
use Rattle.tv_view_tests.proofs.controls.setting.set.Goals as goal

pub set-requires : goal.set-requires
set-requires g c = fits_fresh _ _ _ _ _ c.requires.fresh (c.put.ensures.values c.args.node.now.id.0) c.requires.value
