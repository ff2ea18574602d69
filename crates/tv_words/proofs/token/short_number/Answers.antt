use Rattle.std.proofs.Common.{sym, arith}
use Rattle.tv_words.specs.Tokens.{bare_of}
use Rattle.tv_words.proofs.TokenLemmas.{long_number}
use Rattle.tv_words.proofs.token.short_number.Goals as goal

pub returns-in-None : goal.returns-in-None
returns-in-None c = sym (long_number (bare_of c.args.text.now) (omega (arith, c.in-None.ensures)))
