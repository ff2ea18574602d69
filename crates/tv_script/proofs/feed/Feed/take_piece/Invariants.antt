use Rattle.std.proofs.Common.{◌≡◌, ◌≤◌, ◌+◌, ◌++◌, ℕ, List, take, false}
use Rattle.tv_io.specs.Writer.{Seen}
use Rattle.tv_machine.specs.Run.{Session}
use Rattle.tv_script.specs.Reading.Streams.{IsFed}
use Rattle.tv_script.proofs.feed.Feed.take_piece.Given as goal

abbrev pub invariant-loop-byte : goal.invariant-loop-byte
invariant-loop-byte g l = record {
  going : l.pen.stopped ≡ false;
  same : l.pen.out.ghost_name ≡ l.fn.pen.out.ghost_name;
  there : (s : Session) × g.S.Stage.stands l.stage s;
  bytes : l.self.bytes ≡ l.fn.self.bytes + l.byte-index;
  grown : l.fn.self.items ≤ l.self.items;
  fed : (s : Session) (from : Seen) (given : List ℕ) → IsFed s l.fn.self given from (g.W.Writer.seen l.fn.pen.out.now) (g.S.Stage.stands l.fn.stage) → IsFed s l.self (given ++ take l.byte-index l.piece) from (g.W.Writer.seen l.pen.out.now) (g.S.Stage.stands l.stage);
}
