use Rattle.std.proofs.Common.{◌∙◌, sym}
use Rattle.tv_io.proofs.PenLemmas.{Puts-then}
use Rattle.tv_ways.proofs.wording.put_next.Goals as goal

pub returns-then-is_typed : goal.returns-then-is_typed
returns-then-is_typed g c = rw (sym c.is_typed.ensures ∙ c.if-is_typed.true) (Puts-then c.put_opening.ensures c.put_typed.ensures)

pub returns-else-is_typed : goal.returns-else-is_typed
returns-else-is_typed g c =
    rw (sym c.is_typed.ensures ∙ c.if-is_typed.false) (Puts-then (Puts-then c.put_closing.ensures c.put_between.ensures) c.put_event.ensures)
