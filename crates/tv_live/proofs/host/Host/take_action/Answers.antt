use Rattle.std.proofs.Common.{◌≡◌, ◌∷◌, [], ap, subst, sym, true}
use Rattle.tv_live.specs.Course.{Does}
use Rattle.tv_live.proofs.HostLemmas.{sees-as, sees-leave}
use Rattle.tv_live.proofs.host.Host.take_action.Goals as goal
use Rattle.tv_play.specs.Ends.{is_leaving}

pub returns-in-Leave-clause-sees : goal.returns-in-Leave-clause-sees
returns-in-Leave-clause-sees g c = sees-leave _ c.args.action (λ u runs. subst (λ d. is_leaving d c.args.action ≡ true) (c.desc.ensures u runs) c.in-Leave.ensures)

pub returns-in-Perform-clause-sees : goal.returns-in-Perform-clause-sees
returns-in-Perform-clause-sees g c = sees-as _ _ _ _ c.perform.result (ap (λ a. Does a ∷ []) (sym c.in-Perform.ensures.0)) c.perform.ensures.sees
