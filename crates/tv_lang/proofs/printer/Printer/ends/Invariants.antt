-- As many ends as the loop counted.
use Rattle.std.proofs.Common.{◌≡◌, ◌++◌, replicate}
use Rattle.tv_declarations.specs.declared.declaration.Declaration.TheVariants as declared
use Rattle.tv_declarations.specs.CanonicalDescription.{declarations_text}
use Rattle.tv_lang.proofs.printer.Printer.ends.Given as goal

abbrev pub invariant-loop : goal.invariant-loop
invariant-loop l = l.self ≡ l.fn.self ++ declarations_text (replicate l.counter declared.End)
