use Rattle.std.proofs.Common.{◌∙◌, ap, sym}
use Rattle.tv_choices.proofs.ClusterLemmas.{called-stays}
use Rattle.tv_choices.proofs.ListLemmas.{list-called}
use Rattle.tv_choices.proofs.list_box.ListBox.key_answer.Goals as goal
use Rattle.tv_choices.specs.Choices.{list_leaf}
use Rattle.tv_view.specs.Reactions.{keyed_answer}

pub returns-in-Focused-clause-reaction : goal.returns-in-Focused-clause-reaction
returns-in-Focused-clause-reaction c env =
    let leaf = list_leaf c.args.self.now.core c.args.self.now.chosen in
    c.focused_key.ensures.reaction env ∙ ap (λ phase. keyed_answer env leaf c.args.key phase) (sym c.in-Focused.is)

pub returns-in-Pre : goal.returns-in-Pre
returns-in-Pre c =
    let leaf = list_leaf c.args.self.now.core c.args.self.now.chosen in
    record {
      reaction = λ env. sym (list-called env leaf c.args.key c.args.self.now.own_kind c.args.phase c.in-Pre.is);
      after = sym (called-stays leaf c.args.key c.args.phase c.in-Pre.is);
    }
