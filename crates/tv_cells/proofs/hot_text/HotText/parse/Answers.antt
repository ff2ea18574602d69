use Rattle.std.proofs.Common.{refl, sym, ◌∙◌}
use Rattle.std.specs.Str.{chars}
use Rattle.tv_cells.specs.HotText.{unmarked}
use Rattle.tv_cells.proofs.HotTextLemmas.{hot_around, refuse_mark, refuse_long, spelled_of, long_refused}
use Rattle.tv_cells.specs.declared.hot_text.HotTextFault.TheVariants.{BadWidth, BadMark}
use Rattle.tv_cells.proofs.SpellingLemmas.{not_refused, only_known}
use Rattle.tv_cells.proofs.hot_text.HotText.parse.Goals as goal

pub marked-requires : goal.marked-requires
marked-requires c = hot_around (rw c.in-Some-Marked.field-0-is at c.in-Some-Marked.ensures.some) c.in_default.ensures.none

pub returns-in-None-clause-fault : goal.returns-in-None-clause-fault
returns-in-None-clause-fault c = refuse_mark (chars c.args.text.now) c.in_default.ensures.none c.in-None.ensures.none

pub returns-in-Some-Plain-clause-fault : goal.returns-in-Some-Plain-clause-fault
returns-in-Some-Plain-clause-fault c =
    let narrow = c.in_default.ensures.none in
    let free = rw c.in-Some-Plain.field-0-is at c.in-Some-Plain.ensures.some in
    long_refused _ c.plain.ensures.fault (λ long. refuse_long (chars c.args.text.now) (unmarked (chars c.args.text.now)) narrow (record { narrow = narrow; free = free; letter = tt }) refl long)

pub returns-in-Some-Marked-clause-fault : goal.returns-in-Some-Marked-clause-fault
returns-in-Some-Marked-clause-fault c =
    let narrow = c.in_default.ensures.none in
    let around = rw c.in-Some-Marked.field-0-is at c.in-Some-Marked.ensures.some in
    let spell = spelled_of (chars c.in-Some-Marked.before.now) c.in-Some-Marked.letter (chars c.in-Some-Marked.after.now) in
    long_refused _ c.marked.ensures.fault (λ long. refuse_long (chars c.args.text.now) _ narrow (hot_around around narrow) (spell ∙ sym around.whole) long)

pub returns-in-Some-clause-only : goal.returns-in-Some-clause-only
returns-in-Some-clause-only c = λ hot is short e. absurd (not_refused (chars c.args.text.now) (BadWidth c.in-Some.place) c.in-Some.ensures.some hot is short e)

pub returns-in-None-clause-only : goal.returns-in-None-clause-only
returns-in-None-clause-only c = λ hot is short e. absurd (not_refused (chars c.args.text.now) BadMark (returns-in-None-clause-fault c) hot is short e)

pub returns-in-Some-Plain-clause-only : goal.returns-in-Some-Plain-clause-only
returns-in-Some-Plain-clause-only c =
    let free = rw c.in-Some-Plain.field-0-is at c.in-Some-Plain.ensures.some in
    only_known (chars c.args.text.now) (unmarked (chars c.args.text.now)) (record { narrow = c.in_default.ensures.none; free = free; letter = tt }) refl _ c.plain.ensures.ok (returns-in-Some-Plain-clause-fault c)

pub returns-in-Some-Marked-clause-only : goal.returns-in-Some-Marked-clause-only
returns-in-Some-Marked-clause-only c =
    let around = rw c.in-Some-Marked.field-0-is at c.in-Some-Marked.ensures.some in
    let spell = spelled_of (chars c.in-Some-Marked.before.now) c.in-Some-Marked.letter (chars c.in-Some-Marked.after.now) in
    only_known (chars c.args.text.now) _ (hot_around around c.in_default.ensures.none) (spell ∙ sym around.whole) _ c.marked.ensures.ok (returns-in-Some-Marked-clause-fault c)
