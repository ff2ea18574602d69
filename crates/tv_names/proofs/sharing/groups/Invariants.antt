use Rattle.std.proofs.Common.{◌≡◌, ◌++◌, drop, map}
use Rattle.tv_names.specs.Sharing.{groups_of, lent_group}
use Rattle.tv_names.proofs.sharing.groups.Given as goal

abbrev pub invariant-loop-radios : goal.invariant-loop-radios
invariant-loop-radios l = map lent_group l.groups.items ++ groups_of (drop l.radios-index l.views) l.shown ≡ groups_of l.views l.shown
