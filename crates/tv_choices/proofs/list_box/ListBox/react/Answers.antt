use Rattle.tv_choices.proofs.list_box.ListBox.react.Goals as goal
use Rattle.tv_choices.specs.Choices.{list_leaf}
use Rattle.tv_event.specs.declared.event.Event.TheVariants as events
use Rattle.tv_view.proofs.PassedLemmas.{passed}
use Rattle.tv_view.specs.Effects.{handled}
use Rattle.tv_view.specs.Reactions.{answer}

pub returns-in-Key-clause-passed : goal.returns-in-Key-clause-passed
unfolding answer handled
returns-in-Key-clause-passed c =
    let before = c.args.self.now in
    let after = c.key_answer.new.self in
    passed (events.Key c.in-Key.key) c.args.phase c.args.env.now c.key_answer.result (list_leaf before.core before.chosen) (list_leaf after.core after.chosen)
    (c.key_answer.ensures.reaction c.args.env.now) c.key_answer.ensures.after

pub returns-in-Down-clause-passed : goal.returns-in-Down-clause-passed
unfolding answer handled
returns-in-Down-clause-passed c =
    let before = c.args.self.now in
    let after = c.down_answer.new.self in
    passed (events.Down c.in-Down.point) c.args.phase c.args.env.now c.down_answer.result (list_leaf before.core before.chosen) (list_leaf after.core after.chosen)
    (c.down_answer.ensures.reaction c.args.env.now) (c.down_answer.ensures.after c.args.env.now)

pub returns-in-Up-clause-passed : goal.returns-in-Up-clause-passed
unfolding answer handled
returns-in-Up-clause-passed c =
    let before = c.args.self.now in
    let after = c.up_answer.new.self in
    passed (events.Up c.in-Up.field-0) c.args.phase c.args.env.now c.up_answer.result (list_leaf before.core before.chosen) (list_leaf after.core after.chosen)
    (c.up_answer.ensures.reaction c.in-Up.field-0) (c.up_answer.ensures.after c.in-Up.field-0)
