-- The words so far and those of the items that are left are those of all.
use Rattle.std.proofs.Common.{◌≡◌, ◌++◌, drop, map}
use Rattle.tv_declarations.specs.Spelling.Terms.{marked_word}
use Rattle.tv_lang.proofs.line.Line.marked_items.Given as goal

abbrev pub invariant-loop-item : goal.invariant-loop-item
invariant-loop-item l = l.self ++ map marked_word (drop l.item-index l.items) ≡ l.fn.self ++ map marked_word l.items
