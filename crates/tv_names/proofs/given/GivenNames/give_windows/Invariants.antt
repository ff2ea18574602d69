use Rattle.std.proofs.Common.{map, take}
use Rattle.tv_names.specs.Named.{AreNamesOf}
use Rattle.tv_names.proofs.given.GivenNames.give_windows.Given as goal

abbrev pub invariant-loop-window : goal.invariant-loop-window
invariant-loop-window l = AreNamesOf (map (λ window. window.node) (take l.window-index l.windows)) l.self.names
