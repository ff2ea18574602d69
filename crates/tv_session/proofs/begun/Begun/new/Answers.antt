use Rattle.tv_session.proofs.LimitLemmas.{near_corner}
use Rattle.tv_session.proofs.OwnerLemmas.{head_of_lawful}
use Rattle.tv_session.proofs.begun.Begun.new.Goals as goal

pub invariant_of-result : goal.invariant_of-result
invariant_of-result g c = record {
  stands = c.in_ok-area.ensures.is;
  limited = head_of_lawful c.args.node.now c.requires;
  near = near_corner c.args.node.now c.requires.limited;
}
