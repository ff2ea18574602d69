use Rattle.std.proofs.Common.{ap, decimal, ◌∙◌}
use Rattle.tv_model.specs.Log.LogText.{line_of}
use Rattle.tv_io.proofs.PenLemmas.{Puts-then, Puts-along}
use Rattle.tv_program.proofs.message.put_fault.Goals as goal

pub returns : goal.returns
unfolding line_of
returns g c =
    let number = Puts-along (ap decimal (c.from.ensures ∙ c.number.ensures)) c.put_number.ensures in
    Puts-then (Puts-then c.put.ensures (Puts-then (Puts-then number c.put-2.ensures) c.put_number-2.ensures)) c.put-3.ensures
