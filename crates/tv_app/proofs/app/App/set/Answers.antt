use Rattle.std.proofs.Common.{subst, sym}
use Rattle.tv_machine.specs.Dialog.Sound.{HasSoundDialogs}
use Rattle.tv_machine.specs.Safe.{IsSafeSaved}
use Rattle.tv_app.specs.Setting.{IsTakenOf}
use Rattle.tv_app.proofs.SettingLemmas.{also_runs, safe_taken, sound_run, taken_runs}
use Rattle.tv_app.proofs.app.App.set.Goals as goal

pub keep_record-requires : goal.keep_record-requires
keep_record-requires c = λ s stands.
    let runs = also_runs c.args.self.now c.requires.there.0 s c.requires.there.1 stands in
    let same = c.desc.ensures s runs in
    let taken = c.in-Ok.taken in
    subst (λ d. IsSafeSaved d taken.place taken.values) same
    (safe_taken c.desc.result.now (subst HasSoundDialogs (sym same) (sound_run c.args.self.now s runs)) c.args.dialog.now c.args.values taken c.in-Ok.ensures.taken)

pub returns-in-Ok-clause-kept : goal.returns-in-Ok-clause-kept
returns-in-Ok-clause-kept c = λ s runs.
    let taken = c.in-Ok.taken in
    taken_runs s c.args.self.now _ c.args.dialog.now c.args.values taken
    (subst (λ d. IsTakenOf d c.args.dialog.now c.args.values taken) (c.desc.ensures s runs) c.in-Ok.ensures.taken) runs
    (c.keep_record.ensures.kept s runs.stands)
