use Rattle.std.proofs.Common.{◌≡◌, not, ◌||◌, rules, arith, nat_eq, take, ◌∙◌}
use Rattle.std.proofs.lemmas.Grind.{common_steps}
use Rattle.std.specs.HashSet as set
use Rattle.tv_model.specs.Faults.Letters.{has_bad_key, is_status_key}
use Rattle.tv_names.specs.Keys.{is_alt_of}
use Rattle.tv_model.proofs.EachAfterLemmas.{each_more, passed_more}
use Rattle.tv_names.proofs.GivenKeyLemmas.{are_equal, has_bad_key_given}
use Rattle.tv_names.proofs.keys.bad_keys.Goals as goal

pub loop-item-preserved : goal.loop-item-preserved
loop-item-preserved c =
    let d = c.args.desc.now in
    let key = c.item-item.result.key in
    let taken = set.contains nat_eq c.in_ok-taken.taken in
    let given = set.contains are_equal c.loop-item.keys in
    let same = has_bad_key_given d taken c.in_ok-taken.ensures given (take c.loop-item.item-index d.status) c.loop-item.invariant.given c.item-item.result in
    let is_bad : c.if-is_alt_of.push ≡ (not (is_status_key key) || (is_alt_of taken key || given key)) = grind (arith, common_steps, c.in_ok-is_given.ensures.added) in
    record {
      judged = each_more (has_bad_key d) d.status c.loop-item.item-index c.item-item.result (search rules) (search rules) _ _ c.if-is_alt_of.push c.loop-item.invariant.judged (search rules) (is_bad ∙ same);
      given = λ q. passed_more (λ item. are_equal item.key q) d.status c.loop-item.item-index c.item-item.result (search rules) (search rules) _ _ (c.loop-item.invariant.given q) (c.in_ok-is_given.ensures.updates.0 q);
    }
