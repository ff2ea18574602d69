use Rattle.std.proofs.Common.{◌≡◌, ◌++◌, ◌∷◌, [], pos, sym, ap, ◌∙◌, true, false, arith}
use Rattle.tv_model.specs.Log.LogText.{has_bit}
use Rattle.tv_answers.proofs.MarkLemmas.{all_below, items_below, marked, none_below, unmarked}
use Rattle.tv_answers.proofs.filling.items_marked.Goals.{then-is_marked+in_ok-push_item, else-is_marked}
use Rattle.tv_answers.proofs.filling.items_marked.Goals as goal

pub loop-item-init : goal.loop-item-init
loop-item-init c = c.new-items.ensures ∙ sym (none_below c.args.marks)

pub loop-item-preserved : goal.loop-item-preserved
loop-item-preserved c =
    let marks = c.args.marks in
    let item = c.loop-item.item in
    let some = c.loop-item.auto.item in
    elim c.if-is_marked.branch [
      | then-is_marked+in_ok-push_item w ↦
          let is : has_bit marks item ≡ true = sym c.is_marked.ensures ∙ w.if-is_marked.true in
          w.items-is ∙ w.in_ok-push_item.ensures {u = tt}
          ∙ ap (λ xs. xs ++ pos item ∷ []) c.loop-item.invariant ∙ sym (marked marks item some is)
      | else-is_marked w ↦
          let is : has_bit marks item ≡ false = sym c.is_marked.ensures ∙ w.if-is_marked.false in
          w.items-is ∙ c.loop-item.invariant ∙ sym (unmarked marks item some is)
    ]

pub returns : goal.returns
returns c =
    let last : c.loop-item.item ≡ 17 = omega arith in
    c.loop-item.invariant ∙ ap (items_below c.args.marks) last ∙ all_below c.args.marks
