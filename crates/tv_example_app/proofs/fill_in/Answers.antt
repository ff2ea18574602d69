use Rattle.tv_example_app.proofs.fill_in.Goals as goal

-- the run goes on by the event
pub loop-key-preserved : goal.loop-key-preserved
loop-key-preserved g c =
    let before = c.loop-key.invariant in
    (_, c.step.ensures.goes_on before.0 before.1)
