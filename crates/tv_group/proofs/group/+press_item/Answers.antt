use Rattle.std.proofs.Common.{rules, [], ◌<◌, ◌≤◌, get_or, length, map, ap, ◌∙◌, refl, arith}
use Rattle.tv_view.specs.Calls.{item_pressed}
use Rattle.tv_group.specs.Calls.{all_pressed, in_place}
use Rattle.tv_group.specs.Current.{is_at}
use Rattle.tv_group.specs.Opened.{opened, opened_member}
use Rattle.tv_group.specs.declared.group.MemberOf.TheVariants.{outs-Leaf, outs-Pane}
use Rattle.tv_group.proofs.RestLemmas.{opened_from}
use Rattle.tv_group.proofs.DamageLemmas.{damage-init, damage-next, damage-done, drawn-member-leaf, drawn-member-pane}
use Rattle.tv_group.proofs.EachLemmas.{in_place-leaf, in_place-pane, kept-in_place, each-init, each-next, each-done}
use Rattle.tv_group.proofs.group.+press_item.Goals as goal

pub GroupOf::press_item-loop-member-init : goal.GroupOf::press_item-loop-member-init
GroupOf::press_item-loop-member-init g t c =
    let s = c.args.self.now in let at = c.deref_mut-member-items in
    record {
      unvisited = search rules;
      total = each-init g.V.View.meaning (in_place (item_pressed c.args.id c.args.item)) s.current s.current s.members.items at.result.now at.ensures.value;
      damaged = rw c.new-inner.ensures (damage-init g.V.View.meaning s.current s.current s.members.items at.result.now [] at.ensures.value);
    }

pub GroupOf::press_item-loop-member-preserved : goal.GroupOf::press_item-loop-member-preserved
unfolding all_pressed
GroupOf::press_item-loop-member-preserved g t c =
    let look = g.V.View.meaning in let s = c.args.self.now in let p = c.loop-member in let m = c.member-item.result in
    let h : p.member-index < length p.member-items = omega arith in
    record {
      unvisited = search rules;
      total = each-next look (in_place (item_pressed c.args.id c.args.item)) s.current s.current p.member-index p.member-items m c.press_item.new.self
          (map (in_place (item_pressed c.args.id c.args.item)) (opened_from look s.current 0 s.members.items)) h c.member-item.is
          (kept-in_place (item_pressed c.args.id c.args.item) (is_at s.current p.member-index) (opened_member look c.press_item.new.self) (opened_member look (get_or p.member-items p.member-index m)) c.press_item.ensures.leaves)
          p.invariant.total;
      damaged = damage-next look s.current s.current p.member-index p.member-items m c.press_item.new.self (opened_from look s.current 0 s.members.items) [] p.inner c.press_item.new.damage h c.member-item.is
          (rw c.member-item.is c.press_item.ensures.damage) p.invariant.damaged;
    }

pub GroupOf::press_item-returns-clause-leaves : goal.GroupOf::press_item-returns-clause-leaves
unfolding all_pressed
GroupOf::press_item-returns-clause-leaves g t c =
    let s = c.args.self.now in let p = c.loop-member in let at = c.deref_mut-member-items in
    let h : length p.member-items ≤ p.member-index = omega arith in
    each-done g.V.View.meaning (in_place (item_pressed c.args.id c.args.item)) (λ r x. refl) s.current s p.member-index p.member-items (p.auto.member-items ∙ ap length at.ensures.value) h p.invariant.total

pub GroupOf::press_item-returns-clause-damage : goal.GroupOf::press_item-returns-clause-damage
GroupOf::press_item-returns-clause-damage g t c =
    let s = c.args.self.now in let p = c.loop-member in let at = c.deref_mut-member-items in
    let h : length p.member-items ≤ p.member-index = omega arith in
    let all = rw c.rect.ensures.is at c.add_within.ensures.added in
    let grown = rw c.rect.ensures.is at c.add_within.ensures.grown in
    damage-done g.V.View.meaning s.current s p.member-index p.member-items p.inner c.add_within.new.self c.args.damage.now (p.auto.member-items ∙ ap length at.ensures.value) h p.invariant.damaged all grown

pub MemberOf::press_item-returns-in-Leaf : goal.MemberOf::press_item-returns-in-Leaf
unfolding all_pressed
MemberOf::press_item-returns-in-Leaf g t c =
    let look = g.V.View.meaning in
    record {
      leaves = rw (c.in-Leaf.is, outs-Leaf c.in-Leaf.view)
          (in_place-leaf look (item_pressed c.args.id c.args.item) c.in-Leaf.view c.press_item.new.self (c.press_item.ensures.pressed ∙ ap (λ v. item_pressed c.args.id c.args.item (look v)) c.in-Leaf.view-is));
      damage = rw (c.in-Leaf.is, outs-Leaf c.in-Leaf.view)
          (drawn-member-leaf look c.in-Leaf.view c.press_item.new.self c.args.damage.now c.press_item.new.damage (rw c.in-Leaf.view-is at c.press_item.ensures.damage));
    }

pub MemberOf::press_item-returns-in-Pane : goal.MemberOf::press_item-returns-in-Pane
unfolding all_pressed
MemberOf::press_item-returns-in-Pane g t c =
    let look = g.V.View.meaning in
    record {
      leaves = rw (c.in-Pane.is, outs-Pane c.in-Pane.group)
          (in_place-pane look (item_pressed c.args.id c.args.item) c.in-Pane.group c.press_item-in-Pane.new.self (c.press_item-in-Pane.ensures.leaves ∙ ap (λ x. map (in_place (item_pressed c.args.id c.args.item)) (opened look x)) c.in-Pane.group-is));
      damage = rw (c.in-Pane.is, outs-Pane c.in-Pane.group)
          (drawn-member-pane look c.in-Pane.group c.press_item-in-Pane.new.self _ c.args.damage.now c.press_item-in-Pane.new.damage (rw c.in-Pane.group-is at c.press_item-in-Pane.ensures.damage));
    }
