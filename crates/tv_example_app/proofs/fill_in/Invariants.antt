use Rattle.tv_app.specs.Running.{Runs, Session}
use Rattle.tv_example_app.proofs.fill_in.Given as goal

-- the application stands for some run of the flat machine
abbrev pub invariant-loop-key : goal.invariant-loop-key
invariant-loop-key g l = (s : Session) × Runs l.app s
