use Rattle.std.proofs.Common.{◌≡◌, ◌-◌, ℕ, List, [], length, false}
use Rattle.tv_io.specs.Reader.{HasGiven}
use Rattle.tv_io.specs.Writer.{Seen}
use Rattle.tv_machine.specs.Run.{Session}
use Rattle.tv_script.specs.Reading.Streams.{IsFed}
use Rattle.tv_script.proofs.streaming.perform_all.Given as goal

abbrev pub invariant-loop-count : goal.invariant-loop-count
invariant-loop-count g l = record {
  going : l.pen.stopped ≡ false;
  passed : (g.W.Writer.seen l.pen.out.now).kept ≡ [];
  same : l.pen.out.ghost_name ≡ l.fn.pen.out.ghost_name;
  there : (s : Session) × g.S.Stage.stands l.stage s;
  given : List ℕ;
  gave : HasGiven (g.R.Reader.seen l.fn.reader) (g.R.Reader.seen l.reader) given;
  bytes : l.feed.bytes ≡ length given;
  fed : (s : Session) (from : Seen) → IsFed s l.fn.feed [] from (g.W.Writer.seen l.fn.pen.out.now) (g.S.Stage.stands l.fn.stage) → IsFed s l.feed given from (g.W.Writer.seen l.pen.out.now) (g.S.Stage.stands l.stage);
}

abbrev pub decreases-loop-count : goal.decreases-loop-count
decreases-loop-count g l = 1048577 - l.feed.bytes
