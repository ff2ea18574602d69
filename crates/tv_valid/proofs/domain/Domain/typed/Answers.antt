use Rattle.std.proofs.Common.{rules}
use Rattle.std.specs.Prelude.{Some}
use Rattle.tv_valid.proofs.TypingLemmas.{typed_is}
use Rattle.tv_valid.proofs.domain.Domain.typed.Goals as goal

pub returns-in_err-typed-clause-computed : goal.returns-in_err-typed-clause-computed
returns-in_err-typed-clause-computed c = typed_is c.args.self.now c.args.text.now c.args.at c.args.ch c.from_residual.result (search rules) (search rules)

pub returns-in-Picture-clause-computed : goal.returns-in-Picture-clause-computed
returns-in-Picture-clause-computed c = typed_is c.args.self.now c.args.text.now c.args.at c.args.ch (Some c.filled.result) (search rules) tt

pub returns-in_default-clause-computed : goal.returns-in_default-clause-computed
returns-in_default-clause-computed c = typed_is c.args.self.now c.args.text.now c.args.at c.args.ch (Some c.in_ok-typed.typed) (search rules) tt
