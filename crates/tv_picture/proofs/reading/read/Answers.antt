use Rattle.std.proofs.Common.{arith}
use Rattle.tv_picture.proofs.Stacks.{within_twenty}
use Rattle.tv_picture.proofs.reading.read.Goals as goal

pub read_with-requires-in_default-clause-room : goal.read_with-requires-in_default-clause-room
read_with-requires-in_default-clause-room c = within_twenty 0 c.args.code.now 1 (omega arith) c.requires.whole
