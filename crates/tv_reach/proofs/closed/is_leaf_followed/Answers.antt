use Rattle.std.proofs.Common.{◌≡◌, ◌∙◌, true, false, refl, rules, arith, sym}
use Rattle.std.proofs.lemmas.Bool.{true≢false}
use Rattle.tv_model.specs.Description.Numbers.{natural}
use Rattle.tv_reach.specs.Shown.{IsRuleFollowed}
use Rattle.tv_reach.proofs.ClosedLemmas.{each_choice, goes_on, gone}
use Rattle.tv_reach.proofs.closed.is_leaf_followed.Goals as goal

pub loop-rule-preserved : goal.loop-rule-preserved
loop-rule-preserved c =
    let yes : c.is_rule_followed.result ≡ true = search rules in
    goes_on (IsRuleFollowed c.args.names.now c.args.rules.now c.args.masks.now c.args.leaf.now) c.args.rules.now
    c.loop-rule.rule-index c.rule-item.result c.loop-rule-test.true c.rule-item.is c.loop-rule.invariant (c.is_rule_followed.ensures.followed yes)

pub returns-then-not-is_rule_followed-clause-exact : goal.returns-then-not-is_rule_followed-clause-exact
returns-then-not-is_rule_followed-clause-exact c = λ within followed.
    let no : c.is_rule_followed.result ≡ false = search rules in
    let yes : c.is_rule_followed.result ≡ true
    = c.is_rule_followed.ensures.exact within (λ own k mask h part. followed k mask h part (natural c.rule-item.result.item)) in
    absurd (true≢false (sym yes ∙ no))

pub returns-clause-exact : goal.returns-clause-exact
returns-clause-exact c = λ within followed. refl

pub returns-clause-followed : goal.returns-clause-followed
returns-clause-followed c = λ e.
    each_choice c.args.names.now c.args.rules.now c.args.masks.now c.args.leaf.now
    (gone (IsRuleFollowed c.args.names.now c.args.rules.now c.args.masks.now c.args.leaf.now) c.args.rules.now
    c.loop-rule.rule-index (omega (arith, c.loop-rule-test.false)) c.loop-rule.invariant)
