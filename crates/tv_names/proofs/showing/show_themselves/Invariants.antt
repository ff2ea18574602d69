use Rattle.std.proofs.Common.{◌≡◌, ◌++◌, map, take, drop}
use Rattle.tv_model.specs.Faults.Lines.{after_seen}
use Rattle.tv_model.specs.Faults.Rules.{shows_itself}
use Rattle.tv_model.specs.Faults.Each.{each_after}
use Rattle.tv_names.proofs.showing.show_themselves.Given as goal

abbrev pub invariant-loop-rule : goal.invariant-loop-rule
invariant-loop-rule l = l.showing.items ++ map (λ pair. shows_itself l.dialog.views pair.1) (after_seen (take l.rule-index l.rule-items) (drop l.rule-index l.rule-items)) ≡ each_after (λ _. shows_itself l.dialog.views) l.dialog.rules
