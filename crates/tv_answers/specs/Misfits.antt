-- How what doesn't fit is told.
use Rattle.std.specs.Prelude.{ℕ, List, ◌++◌, codes, decimal}
use Rattle.tv_model.specs.Log.LogText.{bytes_of, end_word}
use Rattle.tv_answers.specs.declared.misfit.Misfit.{Misfit}
use Rattle.tv_answers.specs.declared.misfit.MisfitKind.{MisfitKind}
use Rattle.tv_answers.specs.declared.misfit.MisfitKind.TheVariants.{NoDialog, NoEnd, NoField, NoValue}

-- what doesn't fit
abbrev pub kind_text : MisfitKind → List ℕ
kind_text (NoDialog name) = codes "no dialog " ++ bytes_of name
kind_text (NoEnd dialog command) = end_word command.0 ++ codes " of " ++ bytes_of dialog ++ codes " can't be so"
kind_text (NoField dialog field) = codes "no field " ++ bytes_of field ++ codes " in " ++ bytes_of dialog
kind_text (NoValue dialog field) = bytes_of field ++ codes " of " ++ bytes_of dialog ++ codes " can't be so"

-- what doesn't fit, and where
abbrev pub misfit_text : Misfit → List ℕ
misfit_text misfit = kind_text misfit.kind ++ codes " at line " ++ decimal misfit.line
