use Rattle.tv_picture.proofs.Language.{two_allowed}
use Rattle.tv_picture.proofs.code.Mark.next.Goals as goal

pub returns-in_default : goal.returns-in_default
returns-in_default c = two_allowed c.args.self c.in_default.not-Literal c.in_default.not-Quoted
