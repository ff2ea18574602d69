use Rattle.std.proofs.Common.{◌∙◌, arith}
use Rattle.tv_boxes.proofs.ArgumentLemmas.{fields_go_on}
use Rattle.tv_boxes.proofs.asking.form_fields.Goals as goal

pub loop-left-preserved : goal.loop-left-preserved
loop-left-preserved c =
    fields_go_on c.loop-left.fields c.push.new.self c.in_ok-form_field.field-0 c.loop-left.left.now (omega (arith, c.in-len8-up.len_at_least)) c.in_ok-form_field.ensures c.in_ok-push.ensures.ok
    ∙ c.loop-left.invariant
