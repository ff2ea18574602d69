use Rattle.std.proofs.Common.{◌≡◌, ◌++◌, flat_map, map, drop}
use Rattle.tv_declarations.specs.Spelling.{dialog_declarations, window_declarations}
use Rattle.tv_check.specs.Plan.{lent_step, build_plan_of, steps_of}
use Rattle.tv_check.proofs.plan.plan_of.Given as goal

abbrev pub invariant-loop-window : goal.invariant-loop-window
invariant-loop-window l = map lent_step l.plan.items ++ flat_map (λ window. steps_of (window_declarations window)) (drop l.window-index l.desc.windows) ≡ flat_map (λ window. steps_of (window_declarations window)) l.desc.windows

abbrev pub invariant-loop-dialog : goal.invariant-loop-dialog
invariant-loop-dialog l = map lent_step l.plan.items ++ flat_map (λ dialog. steps_of (dialog_declarations dialog)) (drop l.dialog-index l.desc.dialogs) ≡ build_plan_of l.desc
