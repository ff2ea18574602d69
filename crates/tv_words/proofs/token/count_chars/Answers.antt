use Rattle.std.proofs.Common.{inl, arith}
use Rattle.tv_words.proofs.TokenLemmas.{text_fits}
use Rattle.tv_words.proofs.token.count_chars.Goals as goal

pub count-requires-clause-fits : goal.count-requires-clause-fits
count-requires-clause-fits c = inl (omega (arith, text_fits c.args.rest.now c.utf8.rest))
