use Rattle.tv_io.proofs.WriterLemmas.{Takes-more}
use Rattle.tv_io.proofs.writer.write_all.Goals as goal

pub loop-taken-preserved : goal.loop-taken-preserved
loop-taken-preserved g c =
    Takes-more c.args.text.now c.loop-taken.taken c.in-Some.count c.loop-taken.invariant.0 c.in-Some.ensures.bound c.loop-taken.invariant.1 (c.in-Some.ensures.took c.if-count-gt0.true)
