use Rattle.std.proofs.Common.{◌&&◌, ℕ, get_or, refl, sym, subst, ◌∙◌}
use Rattle.std.proofs.lemmas.Bool.{true≢false}
use Rattle.tv_model.specs.Description.Numbers.{natural}
use Rattle.tv_reach.specs.Masks.{may_hold}
use Rattle.tv_reach.specs.Shown.{IsMaskOf, IsMoved, LeadsIn, is_own_in}
use Rattle.tv_reach.proofs.ClosedLemmas.{leads_moved, moved_leads}
use Rattle.tv_reach.proofs.MaskLemmas.{any-weaker}
use Rattle.tv_reach.proofs.closed.is_rule_followed.Goals as goal

pub returns-then-is_own-clause-followed : goal.returns-then-is_own-clause-followed
returns-then-is_own-clause-followed c = λ e own k mask h part.
    let views = c.args.names.now in
    let rules = c.args.rules.now in
    let node = c.args.leaf.now.node.now in
    let item = natural c.args.rule.now.item in
    let here = get_or c.args.masks.now k mask in
    let chosen : IsMaskOf (λ rule. is_own_in views node rule && may_hold node.kind item rule) rules c.chosen_rules-choice.result
    = subst (λ (n : ℕ). IsMaskOf (λ rule. is_own_in views node rule && may_hold node.kind n rule) rules c.chosen_rules-choice.result) c.natural.ensures
    c.chosen_rules-choice.ensures in
    any-weaker (IsMoved c.own_rules-own.result c.chosen_rules-choice.result here) (LeadsIn views rules node item here)
    (moved_leads views rules node item c.own_rules-own.result c.chosen_rules-choice.result here c.own_rules-own.ensures chosen) c.args.masks.now
    (c.leads.ensures.0 e k mask h part)

pub returns-then-is_own-clause-exact : goal.returns-then-is_own-clause-exact
returns-then-is_own-clause-exact c = λ within followed.
    let views = c.args.names.now in
    let rules = c.args.rules.now in
    let node = c.args.leaf.now.node.now in
    let item = natural c.args.rule.now.item in
    let chosen : IsMaskOf (λ rule. is_own_in views node rule && may_hold node.kind item rule) rules c.chosen_rules-choice.result
    = subst (λ (n : ℕ). IsMaskOf (λ rule. is_own_in views node rule && may_hold node.kind n rule) rules c.chosen_rules-choice.result) c.natural.ensures
    c.chosen_rules-choice.ensures in
    c.leads.ensures.1
    (λ k mask h part.
    let here = get_or c.args.masks.now k mask in
    any-weaker (LeadsIn views rules node item here) (IsMoved c.own_rules-own.result c.chosen_rules-choice.result here)
    (leads_moved views rules node item c.own_rules-own.result c.chosen_rules-choice.result here c.own_rules-own.ensures chosen (within k mask h))
    c.args.masks.now (followed (sym c.is_own.ensures ∙ c.if-is_own.true) k mask h part))

pub returns-else-is_own-clause-followed : goal.returns-else-is_own-clause-followed
returns-else-is_own-clause-followed c = λ e own. absurd (true≢false (sym own ∙ sym c.is_own.ensures ∙ c.if-is_own.false))

pub returns-else-is_own-clause-exact : goal.returns-else-is_own-clause-exact
returns-else-is_own-clause-exact c = λ within followed. refl
