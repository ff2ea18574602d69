use Rattle.std.proofs.Common.{refl}
use Rattle.tv_group.proofs.StackLemmas.{back_is}
use Rattle.tv_group.proofs.stack.send_to_back.Goals as goal

pub returns : goal.returns
returns g c = back_is c.args.items.now c.args.place _ c.rotate_left.new.self _ refl c.rotate_left.ensures.after refl
