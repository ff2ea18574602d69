-- The text so far and the lines of what is left are all.
use Rattle.std.proofs.Common.{◌≡◌, ◌++◌, drop, flat_map}
use Rattle.tv_declarations.specs.Spelling.{dialog_declarations}
use Rattle.tv_declarations.specs.CanonicalDescription.{declarations_text}
use Rattle.tv_lang.proofs.printer.Printer.dialogs.Given as goal

abbrev pub invariant-loop-dialog : goal.invariant-loop-dialog
invariant-loop-dialog l = l.self ++ declarations_text (flat_map dialog_declarations (drop l.dialog-index l.dialogs)) ≡ l.fn.self ++ declarations_text (flat_map dialog_declarations l.dialogs)
