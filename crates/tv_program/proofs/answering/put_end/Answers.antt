use Rattle.tv_io.proofs.PenLemmas.{Puts-then}
use Rattle.tv_machine.specs.Run.{commanded, quiet}
use Rattle.tv_program.proofs.answering.put_end.Goals as goal

pub command-taken-requires : goal.command-taken-requires
command-taken-requires g c = (quiet c.requires.0, c.put_waiting_log.ensures.state c.requires.0 c.requires.1)

pub returns-clause-text : goal.returns-clause-text
returns-clause-text g c = λ s stands.
    Puts-then (c.put_waiting_log.ensures.text s stands)
    (c.put_waiting_log-2.ensures.text (commanded (quiet s) c.args.command) (c.command-taken.ensures.stands (quiet s) (c.put_waiting_log.ensures.state s stands)))

pub returns-clause-stands : goal.returns-clause-stands
returns-clause-stands g c = λ s stands.
    c.put_waiting_log-2.ensures.state (commanded (quiet s) c.args.command) (c.command-taken.ensures.stands (quiet s) (c.put_waiting_log.ensures.state s stands))

pub returns-clause-taken : goal.returns-clause-taken
returns-clause-taken g c = λ s stands. c.command-taken.ensures.taken (quiet s) (c.put_waiting_log.ensures.state s stands)
