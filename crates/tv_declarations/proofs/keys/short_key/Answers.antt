use Rattle.std.proofs.Common.{sym}
use Rattle.tv_words.specs.Tokens.{bare_of}
use Rattle.tv_declarations.proofs.LongKeyLemmas.{long_key}
use Rattle.tv_declarations.proofs.keys.short_key.Goals as goal

pub returns-in-None : goal.returns-in-None
returns-in-None c = sym (long_key (bare_of c.args.text.now) c.in-None.ensures)
