-- The text so far and the lines of what is left are all.
use Rattle.std.proofs.Common.{◌≡◌, ◌++◌, drop, flat_map}
use Rattle.tv_declarations.specs.Spelling.{menu_declarations}
use Rattle.tv_declarations.specs.CanonicalDescription.{declarations_text}
use Rattle.tv_lang.proofs.printer.Printer.menus.Given as goal

abbrev pub invariant-loop-menu : goal.invariant-loop-menu
invariant-loop-menu l = l.self ++ declarations_text (flat_map menu_declarations (drop l.menu-index l.menus)) ≡ l.fn.self ++ declarations_text (flat_map menu_declarations l.menus)
