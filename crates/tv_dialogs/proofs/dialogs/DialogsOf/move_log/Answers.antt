use Rattle.std.proofs.Common.{◌∙◌, ap}
use Rattle.tv_dialogs.specs.Dialogs.{kept_at, lines_by}
use Rattle.tv_dialogs.proofs.dialogs.DialogsOf.move_log.Goals as goal

pub returns-in-Some-clause-taken : goal.returns-in-Some-clause-taken
returns-in-Some-clause-taken g c =
    let new = c.move_log_at.new.self in
    ap (λ last. lines_by (kept_at new last)) (c.move_log_at.ensures.last ∙ c.in-Some.is) ∙ c.move_log_at.ensures.taken
