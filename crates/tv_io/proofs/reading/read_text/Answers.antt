use Rattle.std.proofs.Common.{arith, take, subst}
use Rattle.tv_io.specs.Reader.{Gives}
use Rattle.tv_io.proofs.ReadingLemmas.{IsRead-end, IsRead-full}
use Rattle.tv_io.proofs.reading.read_text.Goals as goal

pub returns-then-count-eq0 : goal.returns-then-count-eq0
returns-then-count-eq0 g c =
    let mid = g.R.Reader.seen c.loop-buffer.reader in
    let new = g.R.Reader.seen c.read.new.self in
    IsRead-end c.args.most (g.R.Reader.seen c.args.reader.now) mid new c.loop-buffer.text.items c.loop-buffer.invariant.0 (grind arith)
    (subst (λ count. Gives mid new (take count c.read.new.room)) c.if-count-eq0.true c.in-Some.ensures.gave)

pub returns : goal.returns
returns g c =
    IsRead-full c.args.most (g.R.Reader.seen c.args.reader.now) (g.R.Reader.seen c.loop-buffer.reader) c.loop-buffer.text.items c.loop-buffer.invariant.0 c.loop-buffer.invariant.2 (grind arith)
