use Rattle.tv_warnings.specs.Findings.{AddsRefused}
use Rattle.tv_warnings.proofs.looking.add_refused.Given as goal

abbrev pub invariant-loop-way : goal.invariant-loop-way
invariant-loop-way l = AddsRefused l.placed.desc.now l.placed.place l.placed.dialog.now l.ways l.initial.found.items l.found.items
