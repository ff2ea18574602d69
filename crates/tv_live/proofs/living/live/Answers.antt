use Rattle.std.proofs.Common.{refl}
use Rattle.tv_live.proofs.LivingLemmas.{lives-to}
use Rattle.tv_live.proofs.living.live.Goals as goal

pub returns-in_default-clause-lives : goal.returns-in_default-clause-lives
returns-in_default-clause-lives g c = λ s runs. refl

pub returns-clause-lives : goal.returns-clause-lives
returns-clause-lives g c = λ s runs. lives-to _ _ c.live_with.result (rw c.in-Ok.ensures.colours at (c.live_with.ensures.lives s runs))
