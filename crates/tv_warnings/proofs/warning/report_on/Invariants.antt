-- There is a block for each finding so far.
use Rattle.std.proofs.Common.{take, string_bytes}
use Rattle.tv_warnings.specs.Warned.{IsWarningReport}
use Rattle.tv_warnings.proofs.warning.report_on.Given as goal

abbrev pub invariant-loop-finding : goal.invariant-loop-finding
invariant-loop-finding l =
    IsWarningReport l.source.manner l.source.name.now l.source.text.now l.desc (take l.finding-index l.found) (string_bytes l.report)
