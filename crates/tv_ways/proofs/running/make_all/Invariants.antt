use Rattle.tv_app.specs.Running.{Runs, started}
use Rattle.tv_model.specs.declared.desc.Desc.{Desc}
use Rattle.tv_ways.specs.Running.{ran}
use Rattle.tv_ways.proofs.running.make_all.Given as goal

abbrev pub invariant-loop-next : goal.invariant-loop-next
invariant-loop-next l = (d : Desc) → Runs l.initial.app (started d) → Runs l.app (ran d l.events)
