use Rattle.std.proofs.Common.{◌∙◌, ap}
use Rattle.tv_picture.specs.Parsing.{built_by}
use Rattle.tv_picture.proofs.ParsingLemmas.{built_push}
use Rattle.tv_picture.proofs.parser.Parser.emit.Goals as goal

pub returns-clause-built : goal.returns-clause-built
returns-clause-built c = ap built_by c.in_ok-push.ensures.items ∙ built_push c.args.self.now.code.items c.args.op
