-- The text so far and the lines of what is left are all.
use Rattle.std.proofs.Common.{◌≡◌, ◌++◌, drop, flat_map}
use Rattle.tv_declarations.specs.Spelling.{window_declarations}
use Rattle.tv_declarations.specs.CanonicalDescription.{declarations_text}
use Rattle.tv_lang.proofs.printer.Printer.windows.Given as goal

abbrev pub invariant-loop-window : goal.invariant-loop-window
invariant-loop-window l = l.self ++ declarations_text (flat_map window_declarations (drop l.window-index l.windows)) ≡ l.fn.self ++ declarations_text (flat_map window_declarations l.windows)
