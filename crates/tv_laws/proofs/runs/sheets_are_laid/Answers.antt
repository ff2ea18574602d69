use Rattle.tv_laws.proofs.SheetLemmas.{runs-bare, sheets-fit, starts-bare}
use Rattle.tv_laws.proofs.runs.sheets_are_laid.Goals as goal

pub returns : goal.returns
returns c =
    let d = c.args._desc.now in
    record { starts = starts-bare d; runs = runs-bare d; fit = sheets-fit d }
