use Rattle.std.proofs.Common.{ap, sym, ◌∙◌}
use Rattle.tv_session.specs.Running.{with_moved_line}
use Rattle.tv_session.proofs.CommandLemmas.{none_is, some_is}
use Rattle.tv_session.proofs.DraggingLemmas.{dialog-moved, front-moved}
use Rattle.tv_session.proofs.run.RunOf.dragged_id.Goals as goal

pub returns-then-is_open : goal.returns-then-is_open
returns-then-is_open g c = λ s corner r.
    let d = c.args.desc.now in
    let found = some_is s.dialog (sym (c.is_open.ensures d s r.dialogs) ∙ c.if-is_open.true) in
    dialog-moved d found.0 corner s found.1 ∙ ap (λ i. with_moved_line i corner s) (sym (c.open_id.ensures.of_open s found.0 r.dialogs found.1))

pub returns-else-is_open : goal.returns-else-is_open
returns-else-is_open g c = λ s corner r.
    let d = c.args.desc.now in
    let none = none_is s.dialog (sym (c.is_open.ensures d s r.dialogs) ∙ c.if-is_open.false) in
    front-moved d corner s none ∙ ap (λ i. with_moved_line i corner s) (sym (c.front.ensures d s.windows r.desk))
