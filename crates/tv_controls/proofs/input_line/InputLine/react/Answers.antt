use Rattle.tv_event.specs.declared.event.Event.TheVariants as events
use Rattle.tv_view.specs.Effects.{handled}
use Rattle.tv_view.specs.Reactions.{answer}
use Rattle.tv_view.proofs.PassedLemmas.{passed}
use Rattle.tv_controls.specs.InputLine.{input_leaf}
use Rattle.tv_controls.proofs.input_line.InputLine.react.Goals as goal

pub returns-in-Key-clause-passed : goal.returns-in-Key-clause-passed
unfolding answer handled
returns-in-Key-clause-passed c =
    let s = c.args.self.now in
    passed (events.Key c.in-Key.key) c.args.phase c.args.env.now c.key.result (input_leaf s.core s.edit) (input_leaf c.key.new.self.core c.key.new.self.edit)
    (c.key.ensures.reaction c.args.env.now) c.key.ensures.after

pub returns-in-Up-clause-passed : goal.returns-in-Up-clause-passed
unfolding answer handled
returns-in-Up-clause-passed c =
    let s = c.args.self.now in
    let point = c.in-Up.field-0 in
    passed (events.Up point) c.args.phase c.args.env.now c.up.result (input_leaf s.core s.edit) (input_leaf c.up.new.self.core c.up.new.self.edit)
    (c.up.ensures.reaction point) (c.up.ensures.after point)
