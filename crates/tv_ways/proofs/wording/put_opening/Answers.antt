use Rattle.std.proofs.Common.{◌∙◌, sym}
use Rattle.tv_io.proofs.PenLemmas.{Puts-then}
use Rattle.tv_ways.proofs.wording.put_opening.Goals as goal

pub returns-then-not-is_typing : goal.returns-then-not-is_typing
returns-then-not-is_typing g c = rw (sym c.is_typing.ensures ∙ c.if-not-is_typing.true) (Puts-then c.put_between.ensures c.put.ensures)
