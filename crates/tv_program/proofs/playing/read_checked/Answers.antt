use Rattle.tv_program.proofs.RunLemmas.{faulty-RefusesDesc}
use Rattle.tv_program.proofs.playing.read_checked.Goals as goal

pub returns-in_err-examine-clause-fault : goal.returns-in_err-examine-clause-fault
returns-in_err-examine-clause-fault c =
    faulty-RefusesDesc c.args.text.now c.in_ok-desc.desc c.in_ok-desc.ensures.spelled c.in_err-examine.field-0.0 c.in_err-examine.ensures.no
    c.from_residual-in_err-examine.result c.from_residual-in_err-examine.ensures.1
