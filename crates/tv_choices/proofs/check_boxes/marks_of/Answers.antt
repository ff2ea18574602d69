use Rattle.std.proofs.Common.{◌≡◌, ◌∙◌, ◌-◌, ◌<◌, ap, bit_or, drop, length, rules, suc}
use Rattle.tv_choices.proofs.MarkLemmas.{marks-more}
use Rattle.tv_choices.proofs.check_boxes.marks_of.Goals as goal
use Rattle.tv_model.specs.Kinds.Cluster.{marks_of}

pub loop-i-preserved : goal.loop-i-preserved
loop-i-preserved c =
    let items = c.args.items.now in
    let at = c.loop-i.i - 1 in
    let within : at < length items = search rules in
    let next : c.loop-i.i ≡ suc at = search rules in
    ap (λ bit. bit_or c.loop-i.marks bit) c.declared_mark-marks.ensures
    ∙ marks-more items at _ c.loop-i.marks within (c.loop-i.invariant ∙ ap (λ k. marks_of (drop k items)) next)
