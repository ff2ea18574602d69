use Rattle.tv_faults.proofs.LawfulDialogLemmas.{sound_lawful}
use Rattle.tv_faults.proofs.SoundDialogLemmas.{sound_dialogs}
use Rattle.tv_faults.proofs.SoundLemmas.{sound_says}
use Rattle.tv_check.proofs.acceptance.Checked.desc.Goals as goal

pub returns-clause-lawful : goal.returns-clause-lawful
returns-clause-lawful c = sound_lawful _ c.self.invariant.0.1.can c.self.invariant.1

pub returns-clause-sound_dialogs : goal.returns-clause-sound_dialogs
returns-clause-sound_dialogs c = sound_dialogs _ c.self.invariant.0.1.can c.self.invariant.1

pub returns-clause-own_names : goal.returns-clause-own_names
returns-clause-own_names c = (sound_says _ c.self.invariant.1).names
