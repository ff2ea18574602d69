use Rattle.tv_group.proofs.StackLemmas.{front_is}
use Rattle.tv_group.proofs.stack.bring_to_front.Goals as goal

pub returns : goal.returns
returns g c = front_is c.args.items.now c.args.place c.rotate_left.new.self c.rotate_left.ensures.after
