use Rattle.tv_laws.proofs.LeavingLemmas.{esc-cancels, up-lets-go}
use Rattle.tv_laws.proofs.OpenLemmas.{opens-fit}
use Rattle.tv_laws.proofs.StepLemmas.{stays-fit}
use Rattle.tv_laws.proofs.TabLemmas.{tab-goes-on}
use Rattle.tv_laws.proofs.runs.dialog_stays_fit.Goals as goal

pub returns : goal.returns
returns c =
    let d = c.args._dialog.now in
    let sound = c.requires.sound in
    record { opens = opens-fit d sound; stays = stays-fit d sound; cancels = esc-cancels d; lets_go = up-lets-go d sound; goes_on = tab-goes-on d sound }
