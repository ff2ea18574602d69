use Rattle.std.proofs.Common.{◌≡◌, [], chars, IsUtf8}
use Rattle.tv_words.specs.declared.scan.Mode.TheVariants.{Between}
use Rattle.tv_words.specs.Reading.Scan.{at, read_on}
use Rattle.tv_words.proofs.scan.scan.Given as goal

abbrev pub invariant-loop-ch : goal.invariant-loop-ch
invariant-loop-ch l = IsUtf8 l.ch-iterator.rest.now × (read_on l.scanner (chars l.ch-iterator.rest.now) ≡ read_on (at [] Between) (chars l.text))
