-- The text so far and the lines of what is left are all.
use Rattle.std.proofs.Common.{◌≡◌, ◌++◌, drop, map}
use Rattle.tv_declarations.specs.declared.declaration.Declaration.TheVariants as declared
use Rattle.tv_declarations.specs.CanonicalDescription.{declarations_text}
use Rattle.tv_lang.proofs.printer.Printer.nodes.Given as goal

abbrev pub invariant-loop-node : goal.invariant-loop-node
invariant-loop-node l = l.self ++ declarations_text (map (λ node. declared.Node node) (drop l.node-index l.nodes)) ≡ l.fn.self ++ declarations_text (map (λ node. declared.Node node) l.nodes)
