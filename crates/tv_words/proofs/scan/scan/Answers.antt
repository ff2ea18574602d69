use Rattle.std.proofs.Common.{◌≡◌, [], true, false, rules, ◌∙◌, chars}
use Rattle.std.proofs.lemmas.Result.{IfOk-weaker}
use Rattle.tv_words.specs.declared.scan.Mode.TheVariants.{Between}
use Rattle.tv_words.specs.Reading.Scan.{at, finished, read_on}
use Rattle.tv_words.proofs.ScanLemmas.{read_more, read_stop, read_end}
use Rattle.tv_words.proofs.scan.scan.Goals as goal

pub loop-ch-preserved : goal.loop-ch-preserved
loop-ch-preserved c =
    let fits : c.in_ok-fits.fits ≡ true = search rules in
    read_more c.loop-ch.scanner c.take.new.self c.loop-ch.ch-iterator.rest.now c.next.new.self.rest.now c.in-Some.ch (read_on (at [] Between) (chars c.args.text.now)) c.loop-ch.invariant.0 c.in-Some.ensures.steps.0
    ((c.in_ok-fits.ensures {u = tt}).yes fits) c.loop-ch.invariant.1

pub returns-then-not-fits : goal.returns-then-not-fits
returns-then-not-fits c =
    let stops : c.in_ok-fits.fits ≡ false = search rules in
    read_stop c.loop-ch.scanner c.loop-ch.ch-iterator.rest.now c.next.new.self.rest.now c.in-Some.ch (read_on (at [] Between) (chars c.args.text.now)) c.loop-ch.invariant.0 c.in-Some.ensures.steps.0
    ((c.in_ok-fits.ensures {u = tt}).no stops) c.loop-ch.invariant.1

pub returns : goal.returns
returns c =
    let all = read_on (at [] Between) (chars c.args.text.now) in
    let ends = read_end c.loop-ch.scanner c.loop-ch.ch-iterator.rest.now all c.in-None.ensures.steps.0.0 c.loop-ch.invariant.1 in
    IfOk-weaker c.finish.result (λ words. words ≡ finished c.loop-ch.scanner) (λ words. words ≡ all) (λ words e. e ∙ ends) c.finish.ensures
