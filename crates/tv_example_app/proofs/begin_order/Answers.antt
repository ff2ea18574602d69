use Rattle.tv_example_app.proofs.begin_order.Goals as goal

-- the record is kept for the run that there is, and the command goes on from there
pub command-requires : goal.command-requires
command-requires c = (_, (c.in_default.ensures.kept c.requires.0 c.requires.1).runs)

pub returns : goal.returns
returns c =
    let kept = c.in_default.ensures.kept c.requires.0 c.requires.1 in
    (_, c.command.ensures.goes_on _ kept.runs)
