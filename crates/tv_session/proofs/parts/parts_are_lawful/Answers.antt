use Rattle.tv_declarations.specs.Spelling.{IsDescription}
use Rattle.tv_faults.specs.Sound.{Sound}
use Rattle.tv_faults.proofs.SoundLemmas.{sound_says}
use Rattle.tv_session.proofs.PartLemmas.{corners_near, heads_limited, lawful_screen, menus_lawful, starts_lawful, status_lawful}
use Rattle.tv_session.proofs.WindowLemmas.{windows_lawful}
use Rattle.tv_session.proofs.parts.parts_are_lawful.Goals as goal

pub returns : goal.returns
returns c =
    let d = c.args._desc.now in
    let is : IsDescription d = c.requires.spelled.1.can in
    let s : Sound d = sound_says d c.requires.sound in
    record {
      screen = lawful_screen d s;
      menus = menus_lawful d s;
      status = status_lawful d s;
      windows = windows_lawful d is s;
      heads = heads_limited d s;
      corners = corners_near d s;
      starts = starts_lawful d s;
    }
