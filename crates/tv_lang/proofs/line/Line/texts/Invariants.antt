-- The words so far and those of the items that are left are those of all.
use Rattle.std.proofs.Common.{◌≡◌, ◌++◌, drop, map}
use Rattle.tv_declarations.specs.Spelling.Nodes.{text_word}
use Rattle.tv_lang.proofs.line.Line.texts.Given as goal

abbrev pub invariant-loop-item : goal.invariant-loop-item
invariant-loop-item l = l.self ++ map text_word (drop l.item-index l.items) ≡ l.fn.self ++ map text_word l.items
