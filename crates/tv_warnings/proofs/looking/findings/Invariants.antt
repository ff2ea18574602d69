-- What was found so far, dialog by dialog.
use Rattle.std.proofs.Common.{◌≡◌, List, flat_map, take}
use Rattle.std.specs.List.{AllZip}
use Rattle.tv_warnings.specs.Findings.{IsFoundIn}
use Rattle.tv_warnings.specs.declared.finding.Finding.{Finding}
use Rattle.tv_warnings.proofs.looking.findings.Given as goal

abbrev pub invariant-loop-place : goal.invariant-loop-place
invariant-loop-place l =
    (each : List (List Finding)) × AllZip (IsFoundIn l.desc) (take l.place l.dialog-items) each
    × (l.found.items ≡ flat_map (λ some. some) each)
