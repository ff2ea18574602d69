-- Programs that promise nothing but to go on.
use Rattle.std.proofs.Common.{◌≡◌, ℕ, List, Result, Ok, Err, Some, refl, subst, sym}
use Rattle.std.specs.Prelude.{IfErr, IfOk}
use Rattle.tv_app.specs.Running.{Runs}
use Rattle.tv_app.specs.Sheets.{IsLaidFrom}
use Rattle.tv_app.specs.declared.app.App.{App}
use Rattle.tv_app.specs.declared.sheets.LayFault.{LayFault}
use Rattle.tv_cells.specs.Picture.{Picture}
use Rattle.tv_live.specs.Programs.{Goes}
use Rattle.tv_machine.specs.Run.{Session, with_sheet}

-- what laying a sheet leaves, whether it was laid or not
pub goes-laid : {old new : App} (name : List ℕ) (sheet : Picture) (result : Result (Unit {0}) LayFault) → IfOk result (λ _. (s : Session) → Runs old s → IsLaidFrom s name sheet new) → IfErr result (λ _. new ≡ old)
    → (s : Session) → Runs old s → Goes (λ _ _. Unit {0}) s new
goes-laid name sheet (Ok done) laid stays s runs = let to = laid s runs in record { session = with_sheet s to.id (Some sheet); runs = to.runs; desc = refl; made = tt }
goes-laid name sheet (Err fault) laid stays s runs = record { session = s; runs = subst (λ (a : App). Runs a s) (sym stays) runs; desc = refl; made = tt }
