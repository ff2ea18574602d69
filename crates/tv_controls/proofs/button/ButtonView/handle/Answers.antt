use Rattle.tv_event.specs.declared.event.Event.TheVariants as events
use Rattle.tv_view.specs.Effects.{handled}
use Rattle.tv_view.specs.Reactions.{answer}
use Rattle.tv_view.specs.Core.{plain_leaf}
use Rattle.tv_view.proofs.PassedLemmas.{passed}
use Rattle.tv_controls.proofs.button.ButtonView.handle.Goals as goal

pub returns-in-Down-clause-passed : goal.returns-in-Down-clause-passed
unfolding answer handled
returns-in-Down-clause-passed c =
    passed (events.Down c.in-Down.field-0) c.args.phase c.args.env.now c.down_answer.result (plain_leaf c.args.self.now.core) (plain_leaf c.down_answer.new.self.core)
    (c.down_answer.ensures.reaction c.args.env.now) (c.down_answer.ensures.after c.args.env.now c.in-Down.field-0)
