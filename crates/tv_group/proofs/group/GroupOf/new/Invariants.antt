use Rattle.std.proofs.Common.{◌≡◌, max, drop}
use Rattle.tv_group.specs.Opened.{members_level}
use Rattle.tv_group.proofs.group.GroupOf.new.Given as goal

abbrev pub invariant-loop-member : goal.invariant-loop-member
invariant-loop-member g l = max l.highest (members_level (drop l.member-index l.member-items)) ≡ members_level l.fn.members.items
