use Rattle.std.proofs.Common.{◌≡◌, ◌∙◌, ap, rules, sym}
use Rattle.tv_choices.proofs.ClusterLemmas.{called-answer, called-stays}
use Rattle.tv_choices.proofs.check_boxes.CheckBoxes.key_answer.Goals as goal
use Rattle.tv_choices.specs.Choices.{boxes_leaf}
use Rattle.tv_view.specs.Reactions.{calling_letter, called_item, item_call, keyed_answer, letter_answer}

pub returns-in-Focused-clause-reaction : goal.returns-in-Focused-clause-reaction
returns-in-Focused-clause-reaction c env =
    let leaf = boxes_leaf c.args.self.now.core c.args.self.now.marks c.args.self.now.selected in
    c.focused_key.ensures.reaction env ∙ ap (λ phase. keyed_answer env leaf c.args.key phase) (sym c.in-Focused.is)

pub returns-in-Pre : goal.returns-in-Pre
returns-in-Pre c =
    let leaf = boxes_leaf c.args.self.now.core c.args.self.now.marks c.args.self.now.selected in
    let items = c.declared.result.now.items in
    let own : c.letter_answer.result ≡ item_call leaf (called_item items (calling_letter c.args.phase c.args.key)) = search rules in
    record {
      reaction = λ env. own ∙ sym (called-answer leaf c.args.key items env (λ letter. ap (λ kind. letter_answer env leaf kind letter) c.declared.ensures.is) c.args.phase c.in-Pre.is);
      after = sym (called-stays leaf c.args.key c.args.phase c.in-Pre.is);
    }
