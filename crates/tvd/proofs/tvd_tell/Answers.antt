use Rattle.std.proofs.Common.{◌==◌, ◌∙◌, sym, ap}
use Rattle.tvd.proofs.TellingLemmas.{Tells-of, begun-is, kept, lost, shown}
use Rattle.tvd.proofs.tvd_tell.Goals as goal

pub returns-then-has_failed : goal.returns-then-has_failed
returns-then-has_failed c =
    let world = c.run_main-status.new.world in
    Tells-of c.args.words.now _ c.words_in.result _ _ c.run_main-status.result 3 c.words_in.ensures.no_text
    (begun-is (ap (λ f. f.name.now) c.new.ensures.first) (ap (λ f. f.text.now) c.new.ensures.first)
    (ap (λ f. f.name.now) c.new.ensures.second) (ap (λ f. f.text.now) c.new.ensures.second)
    c.new-2.ensures c.new-3.ensures.waiting c.new-3.ensures.count c.new-3.ensures.going
    c.new-4.ensures.none c.new-4.ensures.count c.new-5.ensures.none c.new-5.ensures.count)
    c.run_main-status.ensures
    (lost (world.err.failures == 0) c.run_main-status.result (sym c.has_failed.ensures ∙ c.if-has_failed.true))
    (shown world.out.bytes.items world.out.failures c.bytes.ensures c.show.ensures)
    (shown world.err.bytes.items world.err.failures c.bytes-2.ensures c.show-2.ensures)
    (λ path begun ended tape. tape.2)

pub returns : goal.returns
returns c =
    let world = c.run_main-status.new.world in
    Tells-of c.args.words.now _ c.words_in.result _ _ c.run_main-status.result c.run_main-status.result c.words_in.ensures.no_text
    (begun-is (ap (λ f. f.name.now) c.new.ensures.first) (ap (λ f. f.text.now) c.new.ensures.first)
    (ap (λ f. f.name.now) c.new.ensures.second) (ap (λ f. f.text.now) c.new.ensures.second)
    c.new-2.ensures c.new-3.ensures.waiting c.new-3.ensures.count c.new-3.ensures.going
    c.new-4.ensures.none c.new-4.ensures.count c.new-5.ensures.none c.new-5.ensures.count)
    c.run_main-status.ensures
    (kept (world.err.failures == 0) c.run_main-status.result (sym c.has_failed.ensures ∙ c.if-has_failed.false))
    (shown world.out.bytes.items world.out.failures c.bytes.ensures c.show.ensures)
    (shown world.err.bytes.items world.err.failures c.bytes-2.ensures c.show-2.ensures)
    (λ path begun ended tape. tape.2)
