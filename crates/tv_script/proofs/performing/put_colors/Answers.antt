use Rattle.tv_script.specs.ScreenText.{aspect_word, cell_text}
use Rattle.tv_script.specs.declared.shot.Aspect.TheVariants.{Attributes}
use Rattle.tv_io.proofs.PenLemmas.{Puts-along}
use Rattle.tv_script.proofs.ScreenLemmas.{session_text-is}
use Rattle.tv_script.proofs.performing.put_colors.Goals as goal

pub returns : goal.returns
returns g c = λ s stands. Puts-along (session_text-is s c.screen.result.now (c.screen.ensures s stands) (aspect_word Attributes) (cell_text Attributes)) c.put_screen.ensures
