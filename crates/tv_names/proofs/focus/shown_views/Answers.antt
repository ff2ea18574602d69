use Rattle.std.proofs.Common.{ap, ◌∙◌}
use Rattle.std.specs.HashSet.{contains}
use Rattle.tv_names.specs.Focus.{is_same_id}
use Rattle.tv_names.proofs.ReachSetLemmas.{shown_kept, shown_more}
use Rattle.tv_names.proofs.focus.shown_views.Goals as goal
use Rattle.tv_names.proofs.focus.shown_views.Goals.{in-View+in_ok-insert, in_default}

pub loop-reach-preserved : goal.loop-reach-preserved
loop-reach-preserved c i = elim c.match-reach.branch [
  | in-View+in_ok-insert w ↦
      ap (λ shown. contains is_same_id shown i) w.shown-is
      ∙ shown_more c.args.reaches.now c.loop-reach.reach-index _ w.in-View.target i _ _ c.loop-reach-test.true w.in-View.is (c.loop-reach.invariant i) (w.in_ok-insert.ensures.updates.0 i)
  | in_default w ↦
      ap (λ shown. contains is_same_id shown i) w.shown-is
      ∙ shown_kept c.args.reaches.now c.loop-reach.reach-index _ i _ c.loop-reach-test.true w.in_default.not-View (c.loop-reach.invariant i)
]
