use Rattle.std.proofs.Common.{◌∙◌, sym}
use Rattle.tv_io.proofs.PenLemmas.{Puts-then}
use Rattle.tv_ways.proofs.wording.put_script.Goals as goal

pub returns-then-not-is_empty : goal.returns-then-not-is_empty
returns-then-not-is_empty g c = rw (sym c.is_empty.ensures ∙ c.if-not-is_empty.true) (Puts-then c.put_each.ensures c.put.ensures)
