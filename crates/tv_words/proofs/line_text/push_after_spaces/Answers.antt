use Rattle.std.proofs.Common.{string_bytes}
use Rattle.tv_words.proofs.PrintLemmas.{word_written}
use Rattle.tv_words.proofs.line_text.push_after_spaces.Goals as goal

pub loop-word-preserved : goal.loop-word-preserved
loop-word-preserved c = word_written (string_bytes c.loop-word.text) _ _ c.args.words.now c.loop-word.word-index c.word-item.result c.loop-word-test.true c.word-item.is c.in_ok-push_after_space.ensures c.loop-word.invariant
