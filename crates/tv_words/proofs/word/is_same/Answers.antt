use Rattle.std.proofs.Common.{rules}
use Rattle.std.specs.Str.{bytes_eq}
use Rattle.std.proofs.lemmas.Slice.Eq.{bytes_eq-Decides}
use Rattle.std.proofs.lemmas.Bool.Decides.{same_from_decides}
use Rattle.std.proofs.lemmas.Iterator.{same_from_all, YieldsList-from_zip, YieldsList-from_slice}
use borrow.Author.Tests.{tests}
use Rattle.tv_words.proofs.word.is_same.Goals as goal

pub returns-then-chars-ascii : goal.returns-then-chars-ascii
returns-then-chars-ascii c =
    same_from_decides c.all.result (bytes_eq c.args.chars.now c.args.ascii.now)
    (same_from_all {s = c.zip.result} c.all.new.self _ c.all.result c.args.chars.now c.args.ascii.now c.all.ensures.ran (YieldsList-from_zip (YieldsList-from_slice c.args.chars.now (cc)) (YieldsList-from_slice c.args.ascii.now (cc))) (cc) (λ x q k. search (rules, tests)) (λ x q k. search (rules, tests)))
    (bytes_eq-Decides c.args.chars.now c.args.ascii.now)
