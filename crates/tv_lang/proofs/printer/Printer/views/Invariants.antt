-- The text so far and the lines of the views that are left are all.
use Rattle.std.proofs.Common.{◌≡◌, ◌++◌, drop}
use Rattle.tv_declarations.specs.CanonicalDescription.{declarations_text}
use Rattle.tv_declarations.specs.Spelling.{view_declarations}
use Rattle.tv_lang.proofs.printer.Printer.views.Given as goal

abbrev pub invariant-loop-view : goal.invariant-loop-view
invariant-loop-view l = l.self ++ declarations_text (view_declarations l.panes (drop l.view-index l.views)) ≡ l.fn.self ++ declarations_text (view_declarations 0 l.views)
