use Rattle.std.proofs.Common.{◌≡◌, ◌++◌, encode_utf8, take}
use Rattle.tv_io.proofs.utf8.push_encoded.Given as goal

abbrev pub invariant-loop-byte : goal.invariant-loop-byte
invariant-loop-byte g l = (l.byte-items ≡ encode_utf8 l.fn.ch) × (l.bytes.items ≡ l.fn.bytes.items ++ take l.byte-index l.byte-items)
