use Rattle.tv_laws.proofs.RecordLaws.SavedLemmas.{declare-cancel, ends-as-declared, reopens-as-saved, saves-what-it-logs, starts-as-declared}
use Rattle.tv_laws.proofs.records.records_are_kept.Goals as goal

pub returns : goal.returns
returns c =
    let d = c.args._desc.now in
    let sound = c.requires.sound in
    record {
      ends = ends-as-declared d sound;
      cancel = declare-cancel d sound;
      saves = saves-what-it-logs d sound;
      reopens = reopens-as-saved d sound;
      starts = starts-as-declared d sound;
    }
