use Rattle.std.proofs.Common.{ap}
use Rattle.tv_io.proofs.PenLemmas.{Puts-along, Puts-more}
use Rattle.tv_program.specs.Filling.{misfit_message}
use Rattle.tv_program.proofs.filling.put_misfits.Goals as goal

pub loop-misfit-preserved : goal.loop-misfit-preserved
loop-misfit-preserved g c =
    Puts-more (misfit_message c.args.name.now) c.args.misfits.now c.loop-misfit.misfit-index c.misfit-item.result c.loop-misfit-test.true c.loop-misfit.invariant
    (Puts-along (ap (misfit_message c.args.name.now) c.misfit-item.is) c.put_misfit.ensures)
