use Rattle.std.proofs.Common.{◌≡◌, not, take, get_or, sym, ap, ◌∙◌}
use Rattle.std.specs.HashSet.{contains}
use Rattle.tv_names.specs.Focus.{equals_command, is_unreached}
use Rattle.tv_model.proofs.RemainingLemmas.{any_found, any_passed}
use Rattle.tv_names.proofs.ReachSetLemmas.{free_at}
use Rattle.tv_names.proofs.focus.has_nothing_free.Goals as goal

pub returns-then-is_free : goal.returns-then-is_free
returns-then-is_free c =
    let place = c.loop-place.place in
    let views = c.args.views.now in
    let list = c.args.reaches.now in
    let view = c.index-views-place.result in
    let free : c.is_free.result ≡ is_unreached list (take place views) (get_or views place view) =
    free_at list views c.in_ok-shown.shown.items (contains equals_command c.in_ok-enabled.enabled) place view c.index.result.now c.is_free.result
    c.loop-place-test.true c.in_ok-shown.ensures.len c.in_ok-shown.ensures.each c.index-views-place.is c.index.ensures c.in_ok-enabled.ensures c.is_free.ensures in
    sym (ap not (sym c.loop-place.invariant ∙ any_found (λ pair. is_unreached list pair.0 pair.1) views place view c.loop-place-test.true (sym free ∙ c.if-is_free.true)))

pub loop-place-preserved : goal.loop-place-preserved
loop-place-preserved c =
    let place = c.loop-place.place in
    let views = c.args.views.now in
    let list = c.args.reaches.now in
    let view = c.index-views-place.result in
    let free : c.is_free.result ≡ is_unreached list (take place views) (get_or views place view) =
    free_at list views c.in_ok-shown.shown.items (contains equals_command c.in_ok-enabled.enabled) place view c.index.result.now c.is_free.result
    c.loop-place-test.true c.in_ok-shown.ensures.len c.in_ok-shown.ensures.each c.index-views-place.is c.index.ensures c.in_ok-enabled.ensures c.is_free.ensures in
    any_passed (λ pair. is_unreached list pair.0 pair.1) views place view c.loop-place-test.true (sym free ∙ c.if-is_free.false) ∙ c.loop-place.invariant
