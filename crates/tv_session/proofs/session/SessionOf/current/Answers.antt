use Rattle.std.proofs.Common.{subst, ◌∙◌}
use Rattle.tv_machine.specs.Dialog.Sound.{HasSoundDialogs}
use Rattle.tv_session.proofs.session.SessionOf.current.Goals as goal

pub current-requires-clause-run : goal.current-requires-clause-run
current-requires-clause-run g c =
    let s = c.requires.there.0 in
    let r = c.requires.there.1 in
    (s.desc, s.state, record { sound = subst HasSoundDialogs (c.desc-sound.ensures.value ∙ r.desc) c.desc-sound.ensures.sound_dialogs; fit = r.fit; are = r.run.dialogs })

pub returns : goal.returns
returns g c = λ s r.
    c.current.ensures s.desc s.state (record { sound = subst HasSoundDialogs (c.desc-sound.ensures.value ∙ r.desc) c.desc-sound.ensures.sound_dialogs; fit = r.fit; are = r.run.dialogs })
