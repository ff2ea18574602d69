use Rattle.std.proofs.Common.{◌∙◌, sym}
use Rattle.tv_dialogs.proofs.HidingLemmas.{no-shadow}
use Rattle.tv_dialogs.proofs.kept.draw_shadow.Goals as goal

pub returns-else-not-has_part : goal.returns-else-not-has_part
returns-else-not-has_part c x y = no-shadow c.args.canvas c.args.rect (sym c.has_part.ensures ∙ c.if-not-has_part.false) x y c.args.screen.now
