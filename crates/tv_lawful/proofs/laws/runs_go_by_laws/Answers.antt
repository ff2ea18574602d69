use Rattle.tv_faults.proofs.SoundDialogLemmas.{sound_dialogs}
use Rattle.tv_lawful.proofs.LawLemmas.{RunsByLaws-of}
use Rattle.tv_lawful.proofs.laws.runs_go_by_laws.Goals as goal

pub returns : goal.returns
returns c =
    let d = c.args._desc.now in
    let is = c.requires.spelled.1.can in
    RunsByLaws-of d is (sound_dialogs d is c.requires.sound) c.requires.sound
