use Rattle.std.proofs.Common.{◌≡◌, ◌-◌, ◌==◌, false, take}
use Rattle.std.specs.List.{list_any}
use Rattle.tv_model.specs.Description.Numbers.{natural}
use Rattle.tv_reach.proofs.choices.is_box_marked.Given as goal

-- none of the items so far
abbrev pub invariant-loop-start : goal.invariant-loop-start
invariant-loop-start l = list_any (λ start. (natural start - 1) == (l.item - 1)) (take l.start-index l.start-items) ≡ false
