use Rattle.std.proofs.Common.{ap, ◌∙◌}
use Rattle.std.specs.HashSet.{contains}
use Rattle.tv_names.specs.Focus.{equals_command}
use Rattle.tv_names.proofs.ReachSetLemmas.{enabled_kept, enabled_more}
use Rattle.tv_names.proofs.focus.enabled_commands.Goals as goal
use Rattle.tv_names.proofs.focus.enabled_commands.Goals.{in-Buttons+in_ok-insert, in_default}

pub loop-reach-preserved : goal.loop-reach-preserved
loop-reach-preserved c command = elim c.match-reach.branch [
  | in-Buttons+in_ok-insert w ↦
      ap (λ enabled. contains equals_command enabled command) w.enabled-is
      ∙ enabled_more c.args.reaches.now c.loop-reach.reach-index _ w.in-Buttons.command command _ _ c.loop-reach-test.true w.in-Buttons.is (c.loop-reach.invariant command) (w.in_ok-insert.ensures.updates.0 command)
  | in_default w ↦
      ap (λ enabled. contains equals_command enabled command) w.enabled-is
      ∙ enabled_kept c.args.reaches.now c.loop-reach.reach-index _ command _ c.loop-reach-test.true w.in_default.not-Buttons (c.loop-reach.invariant command)
]
