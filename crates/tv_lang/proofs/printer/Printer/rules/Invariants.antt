-- The text so far and the lines of what is left are all.
use Rattle.std.proofs.Common.{◌≡◌, ◌++◌, drop, map}
use Rattle.tv_declarations.specs.declared.declaration.Declaration.TheVariants as declared
use Rattle.tv_declarations.specs.CanonicalDescription.{declarations_text}
use Rattle.tv_lang.proofs.printer.Printer.rules.Given as goal

abbrev pub invariant-loop-rule : goal.invariant-loop-rule
invariant-loop-rule l = l.self ++ declarations_text (map (λ rule. declared.Rule rule) (drop l.rule-index l.rules)) ≡ l.fn.self ++ declarations_text (map (λ rule. declared.Rule rule) l.rules)
