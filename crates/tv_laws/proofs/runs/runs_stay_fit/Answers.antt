use Rattle.tv_laws.proofs.RunLemmas.{always-marks-once, reached-fit, records-fit, runs-fit, start-fit}
use Rattle.tv_laws.proofs.runs.runs_stay_fit.Goals as goal

pub returns : goal.returns
returns c =
    let d = c.args._desc.now in
    let sound = c.requires.sound in
    record {
      starts = start-fit d sound;
      runs = runs-fit d sound;
      records = records-fit d;
      reaches = reached-fit d sound;
      once = always-marks-once d sound;
    }
