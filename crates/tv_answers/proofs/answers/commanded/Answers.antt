use Rattle.std.proofs.Common.{◌<◌, ◌≤◌, ◌∙◌, ap, length, rules, Some}
use Rattle.tv_answers.specs.declared.answers.Answer.{Answer}
use Rattle.tv_answers.proofs.EntryLemmas.{changed_item, unchanged}
use Rattle.tv_answers.proofs.answers.commanded.Goals.{then-place-len, else-place-len}
use Rattle.tv_answers.proofs.answers.commanded.Goals as goal

pub returns : goal.returns
returns c =
    let items = c.into_vec-list.result.items in
    let place = c.args.place in
    let change : Answer → Answer = λ answer. record answer { command = Some c.args.command } in
    elim c.if-place-len.branch [
      | then-place-len w ↦
          let within : place < length items = search rules in
          c.from_vec.ensures ∙ ap (λ v. v.items) w.list-is
          ∙ changed_item change items c.args.answers place w.index_mut-answer.result.now c.into_vec-list.ensures w.index_mut-answer.ensures.value within
      | else-place-len w ↦
          let past : length items ≤ place = search rules in
          c.from_vec.ensures ∙ ap (λ v. v.items) w.list-is ∙ unchanged change items c.args.answers place c.into_vec-list.ensures past
    ]
