use Rattle.std.proofs.Common.{rules, sym, ◌≤◌}
use Rattle.tv_faces.proofs.MarksLemmas.{past-marks}
use Rattle.tv_faces.proofs.cluster.has_mark.Goals as goal

pub returns-in-None : goal.returns-in-None
returns-in-None c =
    let past : 16 ≤ c.args.place = search rules in
    sym (past-marks c.args.marks c.args.place c.ranges.marks.fits past)
