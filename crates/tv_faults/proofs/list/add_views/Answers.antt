use Rattle.std.proofs.Common.{◌∙◌}
use Rattle.std.specs.Prelude.{option_copied}
use Rattle.tv_model.specs.Faults.{view_has}
use Rattle.tv_faults.proofs.list.add_views.Goals as goal

pub returns : goal.returns
returns c =
    c.add_where.ensures (view_has c.args.kind c.args.body.now.frame.now c.args.body.now.ends (option_copied c.args.body.now.sharing) c.args.body.now.views.now)
    (c.as_slice.ensures.value ∙ c.in_ok-faulty.ensures)
