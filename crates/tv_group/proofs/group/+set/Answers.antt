use Rattle.std.proofs.Common.{rules, [], ◌≡◌, ◌<◌, ◌≤◌, get_or, length, map, ap, sym, ◌∙◌, refl, subst, arith, None}
use Rattle.tv_view.specs.Calls.{Fits, set_from}
use Rattle.tv_group.specs.Calls.{FitsAll, all_set, in_place_unmarked}
use Rattle.tv_group.specs.Current.{is_at}
use Rattle.tv_group.specs.Opened.{opened, opened_member}
use Rattle.tv_group.specs.declared.group.MemberOf.TheVariants.{outs-Leaf, outs-Pane}
use Rattle.tv_group.proofs.RestLemmas.{opened_from}
use Rattle.tv_group.proofs.DamageLemmas.{damage-init, damage-next, damage-done, drawn-member-leaf, drawn-member-pane}
use Rattle.tv_group.proofs.EachLemmas.{in_place_unmarked-leaf, in_place_unmarked-pane, kept-in_place_unmarked, each-init, each-next, each-done}
use Rattle.tv_group.proofs.FitLemmas.{fits-leaf, fits-pane, fits-all, fits-member, fits-next}
use Rattle.tv_group.proofs.HeightLemmas.{group_height, member_height, member-lower, pane-lower}
use Rattle.tv_group.proofs.group.+set.Goals as goal

pub GroupOf::set-loop-member-init : goal.GroupOf::set-loop-member-init
GroupOf::set-loop-member-init g t c =
    let s = c.args.self.now in let at = c.deref_mut-member-items in
    record {
      unvisited = search rules;
      fits = fits-all c.args.values.now g.V.View.meaning s at.result.now at.ensures.value c.requires;
      total = each-init g.V.View.meaning (in_place_unmarked (set_from c.args.values.now)) s.current None s.members.items at.result.now at.ensures.value;
      damaged = rw c.new-inner.ensures (damage-init g.V.View.meaning s.current None s.members.items at.result.now [] at.ensures.value);
    }

pub GroupOf::set-set-requires : goal.GroupOf::set-set-requires
GroupOf::set-set-requires g t c =
    let s = c.args.self.now in let p = c.loop-member in
    let h : p.member-index < length p.member-items = omega arith in
    let at = c.deref_mut-member-items in let m = c.member-item.result in
    let inside : p.member-index < length s.members.items = omega (arith, ap length at.ensures.value) in
    let same : get_or p.member-items p.member-index m ≡ get_or s.members.items p.member-index m =
    p.invariant.unvisited.1 p.member-index m (omega arith) ∙ ap (λ l. get_or l p.member-index m) at.ensures.value in
    λ κs within. (
      subst (λ x. member_height x < t) (sym same) (member-lower s p.member-index m t c.decreases inside),
      (search rules, fits-member c.args.values.now g.V.View.meaning s.current p.member-index p.member-items c.member-item.result h c.member-item.is p.invariant.fits),
    )

pub GroupOf::set-loop-member-preserved : goal.GroupOf::set-loop-member-preserved
unfolding all_set
GroupOf::set-loop-member-preserved g t c =
    let look = g.V.View.meaning in let s = c.args.self.now in let p = c.loop-member in let m = c.member-item.result in
    let h : p.member-index < length p.member-items = omega arith in
    record {
      unvisited = search rules;
      fits = fits-next c.args.values.now look s.current p.member-index p.member-items m c.set.new.self h c.member-item.is p.invariant.fits;
      total = each-next look (in_place_unmarked (set_from c.args.values.now)) s.current None p.member-index p.member-items m c.set.new.self
          (map (in_place_unmarked (set_from c.args.values.now)) (opened_from look s.current 0 s.members.items)) h c.member-item.is
          (kept-in_place_unmarked (set_from c.args.values.now) (is_at s.current p.member-index) (opened_member look c.set.new.self) (opened_member look (get_or p.member-items p.member-index m)) c.set.ensures.leaves)
          p.invariant.total;
      damaged = damage-next look s.current None p.member-index p.member-items m c.set.new.self (opened_from look s.current 0 s.members.items) [] p.inner c.set.new.damage h c.member-item.is
          (rw c.member-item.is c.set.ensures.damage) p.invariant.damaged;
    }

pub GroupOf::set-returns-clause-leaves : goal.GroupOf::set-returns-clause-leaves
unfolding all_set
GroupOf::set-returns-clause-leaves g t c =
    let s = c.args.self.now in let p = c.loop-member in let at = c.deref_mut-member-items in
    let h : length p.member-items ≤ p.member-index = omega arith in
    each-done g.V.View.meaning (in_place_unmarked (set_from c.args.values.now)) (λ r x. refl) None s p.member-index p.member-items (p.auto.member-items ∙ ap length at.ensures.value) h p.invariant.total

pub GroupOf::set-returns-clause-damage : goal.GroupOf::set-returns-clause-damage
GroupOf::set-returns-clause-damage g t c =
    let s = c.args.self.now in let p = c.loop-member in let at = c.deref_mut-member-items in
    let h : length p.member-items ≤ p.member-index = omega arith in
    let all = rw c.rect.ensures.is at c.add_within.ensures.added in
    let grown = rw c.rect.ensures.is at c.add_within.ensures.grown in
    damage-done g.V.View.meaning None s p.member-index p.member-items p.inner c.add_within.new.self c.args.damage.now (p.auto.member-items ∙ ap length at.ensures.value) h p.invariant.damaged all grown

pub MemberOf::set-set-requires : goal.MemberOf::set-set-requires
MemberOf::set-set-requires g t c =
    let look = g.V.View.meaning in
    subst (λ v. Fits c.args.values.now (look v)) (sym c.in-Leaf.view-is) (fits-leaf c.args.values.now look c.args.self.now c.in-Leaf.view c.in-Leaf.is c.requires)

pub MemberOf::set-set-requires-in-Pane : goal.MemberOf::set-set-requires-in-Pane
MemberOf::set-set-requires-in-Pane g t c =
    let look = g.V.View.meaning in
    λ κs within. (
      subst (λ x. group_height x < t) (sym c.in-Pane.group-is) (pane-lower c.args.self.now c.in-Pane.group t c.decreases c.in-Pane.is),
      (
        search rules,
        subst (λ x. FitsAll c.args.values.now (opened look x)) (sym c.in-Pane.group-is) (fits-pane c.args.values.now look c.args.self.now c.in-Pane.group c.in-Pane.is c.requires),
      ),
    )

pub MemberOf::set-returns-in-Leaf : goal.MemberOf::set-returns-in-Leaf
unfolding all_set
MemberOf::set-returns-in-Leaf g t c =
    let look = g.V.View.meaning in
    record {
      leaves = rw (c.in-Leaf.is, outs-Leaf c.in-Leaf.view)
          (in_place_unmarked-leaf look (set_from c.args.values.now) c.in-Leaf.view c.set.new.self (c.set.ensures.set ∙ ap (λ v. set_from c.args.values.now (look v)) c.in-Leaf.view-is));
      damage = rw (c.in-Leaf.is, outs-Leaf c.in-Leaf.view)
          (drawn-member-leaf look c.in-Leaf.view c.set.new.self c.args.damage.now c.set.new.damage (rw c.in-Leaf.view-is at c.set.ensures.damage));
    }

pub MemberOf::set-returns-in-Pane : goal.MemberOf::set-returns-in-Pane
unfolding all_set
MemberOf::set-returns-in-Pane g t c =
    let look = g.V.View.meaning in
    record {
      leaves = rw (c.in-Pane.is, outs-Pane c.in-Pane.group)
          (in_place_unmarked-pane look (set_from c.args.values.now) c.in-Pane.group c.set-in-Pane.new.self
          (c.set-in-Pane.ensures.leaves ∙ ap (λ x. map (in_place_unmarked (set_from c.args.values.now)) (opened look x)) c.in-Pane.group-is));
      damage = rw (c.in-Pane.is, outs-Pane c.in-Pane.group)
          (drawn-member-pane look c.in-Pane.group c.set-in-Pane.new.self _ c.args.damage.now c.set-in-Pane.new.damage (rw c.in-Pane.group-is at c.set-in-Pane.ensures.damage));
    }
