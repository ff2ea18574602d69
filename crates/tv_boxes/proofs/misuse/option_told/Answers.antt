use Rattle.std.proofs.Common.{◌++◌, ◌∙◌, ap, arith, codes, string_bytes}
use Rattle.std.specs.Prelude.{encode_utf8_all}
use Rattle.tv_boxes.proofs.MisuseLemmas.{all_letters, next_letter}
use Rattle.tv_boxes.proofs.misuse.option_told.Goals as goal

pub loop-letter-preserved : goal.loop-letter-preserved
loop-letter-preserved c =
    next_letter c.args.word.now c.loop-letter.letter-index c.letter-item.result (string_bytes c.loop-letter.told) (string_bytes c.push.new.self)
    (encode_utf8_all c.args.word.now) c.loop-letter-test.true c.letter-item.is c.in_ok-push.ensures.bytes c.loop-letter.invariant

pub returns : goal.returns
returns c =
    c.in_ok-push_str.ensures.bytes
    ∙ ap (λ bytes. bytes ++ codes " can't be had")
    (all_letters c.args.word.now c.loop-letter.letter-index (string_bytes c.loop-letter.told) (encode_utf8_all c.args.word.now)
    (omega (arith, c.loop-letter-test.false)) c.loop-letter.invariant)
