use Rattle.std.proofs.Common.{◌≡◌, [], take, drop}
use Rattle.std.specs.List.{list_any}
use Rattle.tv_model.specs.Faults.Lines.{after_seen}
use Rattle.tv_names.specs.Focus.{is_unreached}
use Rattle.tv_names.proofs.focus.has_nothing_free.Given as goal

abbrev pub invariant-loop-place : goal.invariant-loop-place
invariant-loop-place l = list_any (λ pair. is_unreached l.reaches pair.0 pair.1) (after_seen (take l.place l.views) (drop l.place l.views)) ≡ list_any (λ pair. is_unreached l.reaches pair.0 pair.1) (after_seen [] l.views)
