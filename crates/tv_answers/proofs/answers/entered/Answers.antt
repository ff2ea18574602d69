use Rattle.std.proofs.Common.{◌<◌, ◌≤◌, ◌∙◌, ap, length, rules, slice_set}
use Rattle.tv_model.specs.Log.Record.{with_value}
use Rattle.tv_answers.specs.declared.answers.Answer.{Answer}
use Rattle.tv_answers.proofs.EntryLemmas.{changed_item, unchanged}
use Rattle.tv_answers.proofs.answers.entered.Goals.{then-place-len+in_ok-put, else-place-len}
use Rattle.tv_answers.proofs.answers.entered.Goals as goal

pub returns : goal.returns
returns c =
    let items = c.into_vec-list.result.items in
    let place = c.args.place in
    let change : Answer → Answer = λ answer. record answer { entries = with_value answer.entries c.args.id c.args.value } in
    elim c.if-place-len.branch [
      | then-place-len+in_ok-put w ↦
          let within : place < length items = search rules in
          let answer = w.index_mut-answer.result.now in
          c.from_vec.ensures ∙ ap (λ v. v.items) w.list-is
          ∙ ap (λ entries. slice_set items place (record answer { entries = entries })) (w.in_ok-put.ensures {u = tt}).ok
          ∙ changed_item change items c.args.answers place answer c.into_vec-list.ensures w.index_mut-answer.ensures.value within
      | else-place-len w ↦
          let past : length items ≤ place = search rules in
          c.from_vec.ensures ∙ ap (λ v. v.items) w.list-is ∙ unchanged change items c.args.answers place c.into_vec-list.ensures past
    ]
