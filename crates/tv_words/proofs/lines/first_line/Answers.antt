use Rattle.std.proofs.Common.{sym}
use Rattle.tv_words.proofs.LineLemmas.{first_of_more, first_of_one}
use Rattle.tv_words.proofs.lines.first_line.Goals as goal

pub returns-in-Some : goal.returns-in-Some
returns-in-Some c = first_of_more c.args.text.now c.in-Some.end (sym c.in-Some.ensures) c.requires

pub returns-in-None : goal.returns-in-None
returns-in-None c = first_of_one c.args.text.now (sym c.in-None.ensures) c.requires
