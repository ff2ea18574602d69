use Rattle.std.proofs.Common.{◌≡◌, ◌++◌, map, take, drop}
use Rattle.tv_model.specs.Faults.Lines.{after_seen}
use Rattle.tv_model.specs.Faults.Rules.{names_unknown}
use Rattle.tv_model.specs.Faults.Each.{each_after}
use Rattle.tv_names.proofs.unknown.unknown_names.Given as goal

abbrev pub invariant-loop-rule : goal.invariant-loop-rule
invariant-loop-rule l = l.unknown.items ++ map (λ pair. names_unknown l.dialog.views pair.1) (after_seen (take l.rule-index l.rule-items) (drop l.rule-index l.rule-items)) ≡ each_after (λ _. names_unknown l.dialog.views) l.dialog.rules
