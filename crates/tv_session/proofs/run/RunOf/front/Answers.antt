use Rattle.std.proofs.Common.{ap, sym, ◌∙◌}
use Rattle.tv_session.specs.Session.{front_by}
use Rattle.tv_session.proofs.LaidLemmas.{none-is}
use Rattle.tv_session.proofs.run.RunOf.front.Goals as goal

pub returns-else-is_open : goal.returns-else-is_open
returns-else-is_open g c = λ s r.
    let none = none-is s.dialog (sym (c.is_open.ensures c.args.desc.now s r.dialogs) ∙ c.if-is_open.false) in
    c.front.ensures c.args.desc.now s.windows r.desk ∙ sym (ap (front_by (record { desc = c.args.desc.now; state = s })) none)
