use Rattle.std.proofs.Common.{◌≡◌, ◌∙◌, ap, rules, sym, true}
use Rattle.tv_choices.proofs.ListLemmas.{list-down}
use Rattle.tv_choices.proofs.list_box.ListBox.down_answer.Goals as goal
use Rattle.tv_choices.specs.Choices.{list_leaf}
use Rattle.tv_view.specs.declared.reaction.Reaction.TheVariants.{Capture}

pub returns-clause-reaction : goal.returns-clause-reaction
returns-clause-reaction c env =
    let leaf = list_leaf c.args.self.now.core c.args.self.now.chosen in
    let focused : leaf.is_focused ≡ true = search rules in
    let id : c.id-2.result ≡ leaf.node.id = search rules in
    ap (λ i. Capture i) id ∙ sym (list-down env leaf c.args.self.now.own_kind focused)
