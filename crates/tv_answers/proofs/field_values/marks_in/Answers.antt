use Rattle.std.proofs.Common.{◌∙◌, ap}
use Rattle.tv_answers.specs.FieldValues.{marks_among}
use Rattle.tv_answers.proofs.LineLemmas.{marks_by_items}
use Rattle.tv_answers.proofs.field_values.marks_in.Goals as goal

pub returns-else-is_dash : goal.returns-else-is_dash
returns-else-is_dash c =
    c.marks_among.ensures ∙ ap (λ n. marks_among n c.args.words.now) c.min.ensures
    ∙ marks_by_items c.args.count c.args.words.now c.if-is_empty.ensures c.if-is_dash.ensures
