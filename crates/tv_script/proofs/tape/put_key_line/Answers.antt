use Rattle.tv_io.proofs.PenLemmas.{Puts-along, Puts-then}
use Rattle.tv_script.proofs.TapeLemmas.{key_line_words}
use Rattle.tv_script.proofs.tape.put_key_line.Goals as goal

pub returns : goal.returns
returns g c = Puts-along (key_line_words c.args.key) (Puts-then c.put_key.ensures c.put.ensures)
