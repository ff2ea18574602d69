use Rattle.std.proofs.Common.{◌≡◌, rules}
use Rattle.tv_boxes.specs.Asked.AreAmiss.{misused}
use Rattle.tv_boxes.specs.declared.misuse.Misuse.TheVariants.{NoMemory}
use Rattle.tv_boxes.proofs.AskedLemmas.{denied}
use Rattle.tv_boxes.proofs.answering.asked_text.Goals as goal

pub returns-in-Ok-clause-fault : goal.returns-in-Ok-clause-fault
returns-in-Ok-clause-fault c = denied c.args.words.now c.in-Ok.request c.request_text.result c.in-Ok.ensures c.request_text.ensures.fault

pub returns-in_ok-told-in-Err : goal.returns-in_ok-told-in-Err
returns-in_ok-told-in-Err c =
    let named : ¬ (c.in-Err.misuse ≡ NoMemory) = search rules in
    record { text = tt; fault = misused c.in-Err.misuse (c.in-Err.ensures named) c.in_ok-told-in-Err.ensures }
