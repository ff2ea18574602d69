-- The characters so far and the bytes that are left are the text.
use Rattle.std.proofs.Common.{◌≡◌, ◌++◌, drop}
use Rattle.tv_lang.proofs.line.ascii.Given as goal

abbrev pub invariant-loop-byte : goal.invariant-loop-byte
invariant-loop-byte l = l.chars ++ drop l.byte-index l.text ≡ l.text
