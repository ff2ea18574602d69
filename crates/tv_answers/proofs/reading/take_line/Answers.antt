use Rattle.std.proofs.Common.{Some, None, refl, sym, ◌∙◌}
use Rattle.tv_answers.proofs.ReadLemmas.{answered_line, faulty_line, line_without_words}
use Rattle.tv_answers.proofs.reading.take_line.Goals as goal

pub returns-in_default-clause-fault : goal.returns-in_default-clause-fault
returns-in_default-clause-fault c = (refl, faulty_line c.args.desc.now c.args.number c.args.read c.args.line.now c.in_ok-list.field-0 (sym c.if-is_row.false ∙ c.is_row.ensures) c.in_ok-list.ensures.spelled c.in_ok-list.ensures.only c.in_default.is)

pub returns-then-is_empty-clause-value : goal.returns-then-is_empty-clause-value
returns-then-is_empty-clause-value c = line_without_words c.args.desc.now c.args.number c.args.read c.args.line.now c.in_ok-list.field-0 (sym c.if-is_row.false ∙ c.is_row.ensures) c.in_ok-list.ensures.spelled c.in_ok-list.ensures.only c.as_slice-words.result.now (cc (c.in-Some.is, c.as_slice-words.ensures)) c.if-is_empty.ensures

pub returns-in-Some-2-clause-value : goal.returns-in-Some-2-clause-value
returns-in-Some-2-clause-value c = answered_line c.args.desc.now c.args.number c.args.read c.args.line.now c.in_ok-list.field-0 (sym c.if-is_row.false ∙ c.is_row.ensures) c.in_ok-list.ensures.spelled c.in_ok-list.ensures.only c.as_slice-words.result.now (Some c.in-Some-2.further) (cc (c.in-Some.is, c.as_slice-words.ensures)) c.if-is_empty.ensures (sym c.in-Some-2.is ∙ c.in_ok-further.ensures)

pub returns-clause-fault : goal.returns-clause-fault
returns-clause-fault c = (refl, answered_line c.args.desc.now c.args.number c.args.read c.args.line.now c.in_ok-list.field-0 (sym c.if-is_row.false ∙ c.is_row.ensures) c.in_ok-list.ensures.spelled c.in_ok-list.ensures.only c.as_slice-words.result.now None (cc (c.in-Some.is, c.as_slice-words.ensures)) c.if-is_empty.ensures (sym c.in-None.is ∙ c.in_ok-further.ensures))
