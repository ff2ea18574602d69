use Rattle.tv_machine.specs.Run.{started}
use Rattle.tv_program.proofs.RunLemmas.{fits}
use Rattle.tv_run_tests.proofs.going_on.expect_goes_on.Goals as goal

pub expect_stopped-requires : goal.expect_stopped-requires
expect_stopped-requires g c =
    (started c.args.checked, c.in-Ok.ensures.made, fits c.args.checked c.desc.result.now c.desc.ensures.value c.parts_are_lawful.ensures.screen.columns c.parts_are_lawful.ensures.screen.rows)
