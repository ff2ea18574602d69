use Rattle.tv_machine.specs.Run.{started}
use Rattle.tv_program.proofs.RunLemmas.{fits}
use Rattle.tv_program_tests.proofs.refusals.sessions.perform_over.Goals as goal

pub perform_all-requires : goal.perform_all-requires
perform_all-requires g c =
    (started c.args.checked, c.in-Ok.ensures.made, fits c.args.checked c.desc.result.now c.desc.ensures.value c.parts_are_lawful.ensures.screen.columns c.parts_are_lawful.ensures.screen.rows)
