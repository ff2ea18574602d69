-- The text so far and the lines of what is left are all.
use Rattle.std.proofs.Common.{◌≡◌, ◌++◌, drop, map}
use Rattle.tv_declarations.specs.declared.declaration.Declaration.TheVariants as declared
use Rattle.tv_declarations.specs.CanonicalDescription.{declarations_text}
use Rattle.tv_lang.proofs.printer.Printer.items.Given as goal

abbrev pub invariant-loop-item : goal.invariant-loop-item
invariant-loop-item l = l.self ++ declarations_text (map (λ item. declared.Item item) (drop l.item-index l.items)) ≡ l.fn.self ++ declarations_text (map (λ item. declared.Item item) l.items)
