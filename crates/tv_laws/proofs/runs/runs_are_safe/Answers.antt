use Rattle.tv_laws.proofs.RunLemmas.{always-safe, fit-safe}
use Rattle.tv_laws.proofs.runs.runs_are_safe.Goals as goal

pub returns : goal.returns
returns c =
    let d = c.args._desc.now in
    let sound = c.requires.sound in
    let stand = c.requires.stand in
    record { fit = fit-safe d sound stand; safe = always-safe d sound stand }
