use Rattle.tv_dialogs.proofs.dialogs.DialogsOf.held.Goals as goal

pub returns : goal.returns
returns g c d s run = run.are.held
