use Rattle.std.proofs.Common.{◌≡◌, map, option_map, rules, sym, ◌∙◌}
use Rattle.std.specs.Prelude.{slice_get}
use Rattle.std.proofs.lemmas.Option.{slice_get-map}
use Rattle.tv_check.specs.Lent.{lent_tab}
use Rattle.tv_check.proofs.FirstLemmas.{alike_more}
use Rattle.tv_check.proofs.acceptance_tabs.first_difference.Goals as goal

pub loop-before-preserved : goal.loop-before-preserved
loop-before-preserved c =
    let here : option_map lent_tab (slice_get c.args.given.now c.loop-before.before) ≡ option_map lent_tab (slice_get c.args.order.now c.loop-before.before) = search rules in
    alike_more (map lent_tab c.args.given.now) (map lent_tab c.args.order.now) c.loop-before.before c.loop-before.invariant
    (slice_get-map lent_tab c.args.given.now c.loop-before.before ∙ here ∙ sym (slice_get-map lent_tab c.args.order.now c.loop-before.before))
