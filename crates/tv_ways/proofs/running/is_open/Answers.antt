use Rattle.tv_ways.proofs.running.is_open.Goals as goal

pub returns-in-Some : goal.returns-in-Some
returns-in-Some c = λ e s runs. (c.in-Some.ensures s runs).0.at
