use Rattle.std.proofs.Common.{◌≡◌, ◌+◌, refl, sym, ◌∙◌, arith}
use Rattle.tv_lang.proofs.LineStepLemmas.{faulty_line, line_without_words, line_of_other_version, declaration, next_taken}
use Rattle.tv_lang.proofs.description.take_line.Goals as goal

pub returns-in_default-clause-fault : goal.returns-in_default-clause-fault
returns-in_default-clause-fault c = (refl, faulty_line c.args.progress c.args.line.now c.in_ok-list.field-0 c.in_ok-list.ensures.spelled c.in_ok-list.ensures.only c.in_default.is)

pub returns-then-is_empty-clause-value : goal.returns-then-is_empty-clause-value
returns-then-is_empty-clause-value c = line_without_words c.args.progress c.args.line.now c.in_ok-list.field-0 c.in_ok-list.ensures.spelled c.in_ok-list.ensures.only c.as_slice-words.result.now (cc (c.in-Some.is, c.as_slice-words.ensures)) c.if-is_empty.ensures

pub returns-then-is_other_version-clause-fault : goal.returns-then-is_other_version-clause-fault
returns-then-is_other_version-clause-fault c = line_of_other_version c.args.progress c.args.line.now c.in_ok-list.field-0 c.in_ok-list.ensures.spelled c.in_ok-list.ensures.only c.as_slice-words.result.now (cc (c.in-Some.is, c.as_slice-words.ensures)) c.if-is_empty.ensures c.if-is_other_version.ensures

pub returns-in-Some-2-clause-value : goal.returns-in-Some-2-clause-value
returns-in-Some-2-clause-value c = declaration c.args.progress c.args.line.now c.in_ok-list.field-0 c.in_ok-list.ensures.spelled c.in_ok-list.ensures.only c.as_slice-words.result.now _ (cc (c.in-Some.is, c.as_slice-words.ensures)) c.if-is_empty.ensures c.if-is_other_version.ensures (sym c.in-Some-2.is ∙ c.in_ok-further.ensures)

pub returns-clause-fault : goal.returns-clause-fault
returns-clause-fault c = (refl, declaration c.args.progress c.args.line.now c.in_ok-list.field-0 c.in_ok-list.ensures.spelled c.in_ok-list.ensures.only c.as_slice-words.result.now _ (cc (c.in-Some.is, c.as_slice-words.ensures)) c.if-is_empty.ensures c.if-is_other_version.ensures (sym c.in-None.is ∙ c.in_ok-further.ensures))

pub returns-in-Some-2-clause-next : goal.returns-in-Some-2-clause-next
returns-in-Some-2-clause-next c = let next : c.in-Some-2.further.next ≡ c.args.progress.next + 1 = next_taken c.args.progress c.as_slice-words.result.now c.in-Some-2.further (sym c.in_ok-further.ensures ∙ c.in-Some-2.is) in omega arith
