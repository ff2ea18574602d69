use Rattle.std.proofs.Common.{◌≡◌, [], drop, take}
use Rattle.std.specs.Prelude.{nat_eq}
use Rattle.std.specs.HashSet as set
use Rattle.tv_explain.specs.Letters.{letter_from}
use Rattle.tv_explain.proofs.letters.letter_line.Given as goal

abbrev pub invariant-loop-i : goal.invariant-loop-i
invariant-loop-i l =
    letter_from (set.contains nat_eq l.shared) l.before l.node.id.0 (take l.i l.texts) (drop l.i l.texts)
    ≡ letter_from (set.contains nat_eq l.shared) l.before l.node.id.0 [] l.texts
