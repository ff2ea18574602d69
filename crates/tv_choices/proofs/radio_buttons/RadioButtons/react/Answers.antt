use Rattle.tv_choices.proofs.radio_buttons.RadioButtons.react.Goals as goal
use Rattle.tv_choices.specs.Choices.{radios_leaf}
use Rattle.tv_event.specs.declared.event.Event.TheVariants as events
use Rattle.tv_view.proofs.PassedLemmas.{passed}
use Rattle.tv_view.specs.Effects.{handled}
use Rattle.tv_view.specs.Reactions.{answer}

pub returns-in-Key-clause-passed : goal.returns-in-Key-clause-passed
unfolding answer handled
returns-in-Key-clause-passed c =
    let before = c.args.self.now in
    let after = c.key_answer.new.self in
    passed (events.Key c.in-Key.key) c.args.phase c.args.env.now c.key_answer.result (radios_leaf before.core before.marked) (radios_leaf after.core after.marked)
    (c.key_answer.ensures.reaction c.args.env.now) c.key_answer.ensures.after

pub returns-in-Down-clause-passed : goal.returns-in-Down-clause-passed
unfolding answer handled
returns-in-Down-clause-passed c =
    let before = c.args.self.now in
    let after = c.down_answer.new.self in
    passed (events.Down c.in-Down.point) c.args.phase c.args.env.now c.down_answer.result (radios_leaf before.core before.marked) (radios_leaf after.core after.marked)
    (c.down_answer.ensures.reaction c.args.env.now) (c.down_answer.ensures.after c.args.env.now)
