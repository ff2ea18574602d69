use Rattle.tv_session.proofs.LimitLemmas.{window_head_limited}
use Rattle.tv_app.proofs.making.window_of.Goals as goal

pub new-requires-clause-limited : goal.new-requires-clause-limited
new-requires-clause-limited g c = window_head_limited c.args.window.now.node c.requires.window.lawful.limited
