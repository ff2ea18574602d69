use Rattle.std.proofs.Common.{ap, rules}
use Rattle.tv_script.proofs.PerformLemmas.{stops_of}
use Rattle.tv_script.proofs.performing.perform.Goals as goal

pub returns-clause-stops : goal.returns-clause-stops
returns-clause-stops g c =
    stops_of c.items.result.now c.args.script.now c.items.ensures.items c.put_script.result _ _ _ (g.S.Stage.stands c.args.stage.now) (g.S.Stage.stands c.put_script.new.stage) (ap g.W.Writer.seen (search rules))
    c.put_script.ensures.stops
