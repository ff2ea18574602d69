use Rattle.std.proofs.Common.{◌∙◌}
use Rattle.tv_session.proofs.building.Building.begin.Goals as goal

pub returns-clause-begun : goal.returns-clause-begun
returns-clause-begun g c = record {
  group = c.in_ok-begun.ensures.group;
  begun = c.in_ok-begun.begun;
  node_is = c.in_ok-begun.ensures.node;
  empty = c.in_ok-begun.ensures.members ∙ c.new.ensures.items;
  last = c.in_ok-push.ensures.items;
}
