use Rattle.std.proofs.Common.{rules, [], ◌<◌, ◌≤◌, get_or, length, map, ap, ◌∙◌, refl, arith}
use Rattle.tv_view.specs.Calls.{applied}
use Rattle.tv_group.specs.Calls.{all_applied, in_place}
use Rattle.tv_group.specs.Current.{is_at}
use Rattle.tv_group.specs.Opened.{opened, opened_member}
use Rattle.tv_group.specs.declared.group.MemberOf.TheVariants.{outs-Leaf, outs-Pane}
use Rattle.tv_group.proofs.RestLemmas.{opened_from}
use Rattle.tv_group.proofs.DamageLemmas.{damage-init, damage-next, damage-done, drawn-member-leaf, drawn-member-pane}
use Rattle.tv_group.proofs.EachLemmas.{in_place-leaf, in_place-pane, kept-in_place, each-init, each-next, each-done}
use Rattle.tv_group.proofs.group.+apply.Goals as goal

pub GroupOf::apply-loop-member-init : goal.GroupOf::apply-loop-member-init
GroupOf::apply-loop-member-init g t c =
    let s = c.args.self.now in let at = c.deref_mut-member-items in
    record {
      unvisited = search rules;
      total = each-init g.V.View.meaning (in_place (applied c.args.rules.now)) s.current s.current s.members.items at.result.now at.ensures.value;
      damaged = rw c.new-inner.ensures (damage-init g.V.View.meaning s.current s.current s.members.items at.result.now [] at.ensures.value);
    }

pub GroupOf::apply-loop-member-preserved : goal.GroupOf::apply-loop-member-preserved
unfolding all_applied
GroupOf::apply-loop-member-preserved g t c =
    let look = g.V.View.meaning in let s = c.args.self.now in let p = c.loop-member in let m = c.member-item.result in
    let h : p.member-index < length p.member-items = omega arith in
    record {
      unvisited = search rules;
      total = each-next look (in_place (applied c.args.rules.now)) s.current s.current p.member-index p.member-items m c.apply.new.self
          (map (in_place (applied c.args.rules.now)) (opened_from look s.current 0 s.members.items)) h c.member-item.is
          (kept-in_place (applied c.args.rules.now) (is_at s.current p.member-index) (opened_member look c.apply.new.self) (opened_member look (get_or p.member-items p.member-index m)) c.apply.ensures.leaves)
          p.invariant.total;
      damaged = damage-next look s.current s.current p.member-index p.member-items m c.apply.new.self (opened_from look s.current 0 s.members.items) [] p.inner c.apply.new.damage h c.member-item.is
          (rw c.member-item.is c.apply.ensures.damage) p.invariant.damaged;
    }

pub GroupOf::apply-returns-clause-leaves : goal.GroupOf::apply-returns-clause-leaves
unfolding all_applied
GroupOf::apply-returns-clause-leaves g t c =
    let s = c.args.self.now in let p = c.loop-member in let at = c.deref_mut-member-items in
    let h : length p.member-items ≤ p.member-index = omega arith in
    each-done g.V.View.meaning (in_place (applied c.args.rules.now)) (λ r x. refl) s.current s p.member-index p.member-items (p.auto.member-items ∙ ap length at.ensures.value) h p.invariant.total

pub GroupOf::apply-returns-clause-damage : goal.GroupOf::apply-returns-clause-damage
GroupOf::apply-returns-clause-damage g t c =
    let s = c.args.self.now in let p = c.loop-member in let at = c.deref_mut-member-items in
    let h : length p.member-items ≤ p.member-index = omega arith in
    let all = rw c.rect.ensures.is at c.add_within.ensures.added in
    let grown = rw c.rect.ensures.is at c.add_within.ensures.grown in
    damage-done g.V.View.meaning s.current s p.member-index p.member-items p.inner c.add_within.new.self c.args.damage.now (p.auto.member-items ∙ ap length at.ensures.value) h p.invariant.damaged all grown

pub MemberOf::apply-returns-in-Leaf : goal.MemberOf::apply-returns-in-Leaf
unfolding all_applied
MemberOf::apply-returns-in-Leaf g t c =
    let look = g.V.View.meaning in
    record {
      leaves = rw (c.in-Leaf.is, outs-Leaf c.in-Leaf.view)
          (in_place-leaf look (applied c.args.rules.now) c.in-Leaf.view c.apply.new.self (c.apply.ensures.applied ∙ ap (λ v. applied c.args.rules.now (look v)) c.in-Leaf.view-is));
      damage = rw (c.in-Leaf.is, outs-Leaf c.in-Leaf.view)
          (drawn-member-leaf look c.in-Leaf.view c.apply.new.self c.args.damage.now c.apply.new.damage (rw c.in-Leaf.view-is at c.apply.ensures.damage));
    }

pub MemberOf::apply-returns-in-Pane : goal.MemberOf::apply-returns-in-Pane
unfolding all_applied
MemberOf::apply-returns-in-Pane g t c =
    let look = g.V.View.meaning in
    record {
      leaves = rw (c.in-Pane.is, outs-Pane c.in-Pane.group)
          (in_place-pane look (applied c.args.rules.now) c.in-Pane.group c.apply-in-Pane.new.self (c.apply-in-Pane.ensures.leaves ∙ ap (λ x. map (in_place (applied c.args.rules.now)) (opened look x)) c.in-Pane.group-is));
      damage = rw (c.in-Pane.is, outs-Pane c.in-Pane.group)
          (drawn-member-pane look c.in-Pane.group c.apply-in-Pane.new.self _ c.args.damage.now c.apply-in-Pane.new.damage (rw c.in-Pane.group-is at c.apply-in-Pane.ensures.damage));
    }
