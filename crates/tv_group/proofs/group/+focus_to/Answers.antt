use Rattle.std.proofs.Common.{rules, arith, [], ◌≡◌, ◌<◌, ◌≤◌, length, ap, sym, ◌∙◌, not}
use Rattle.tv_view.specs.Calls.{focused_to, takes_focus}
use Rattle.std.specs.Bool.{then_some}
use Rattle.std.specs.Option.{option_or}
use Rattle.tv_group.specs.Calls.{all_focused, has_control}
use Rattle.tv_group.specs.Opened.{opened}
use Rattle.tv_group.specs.declared.group.MemberOf.TheVariants.{outs-Leaf, outs-Pane}
use Rattle.tv_group.proofs.DamageLemmas.{damage-init, damage-next, damage-done, damage-marked, drawn-member-leaf, drawn-member-pane}
use Rattle.tv_group.proofs.RestLemmas.{opened_from}
use Rattle.tv_group.proofs.FocusLemmas.{first-found, focusing-none, focusing-next, focusing-found, focusing-all, found-before, has_control-alone, leaf-left, not-found}
use Rattle.tv_group.proofs.FocusLemmas.{leaf-moved, pane-left, pane-moved}
use Rattle.tv_group.proofs.OpenedLemmas.{member-leaf, member-pane, opened_member-leaf}
use Rattle.tv_group.proofs.group.+focus_to.Goals as goal
use Rattle.tv_group.proofs.group.+focus_to.Goals.{GroupOf::focus_to-then-has+then-is_none, GroupOf::focus_to-else-has, GroupOf::focus_to-else-has-via-then-has+else-is_none, GroupOf::focus_to-else-has-via-else-has}

pub GroupOf::focus_to-loop-i-init : goal.GroupOf::focus_to-loop-i-init
GroupOf::focus_to-loop-i-init g t c =
    let s = c.args.self.now in let at = c.deref_mut-member-items in
    record {
      unvisited = search rules;
      focusing = focusing-none g.V.View.meaning c.args.id s at.result.now at.ensures.value;
      damaged = rw c.new-inner.ensures (damage-init g.V.View.meaning s.current s.current s.members.items at.result.now [] at.ensures.value);
    }

pub GroupOf::focus_to-loop-i-preserved : goal.GroupOf::focus_to-loop-i-preserved
GroupOf::focus_to-loop-i-preserved g t c =
    let s = c.args.self.now in let p = c.loop-i in let at = c.deref_mut-member-items in let f = c.focus_to-has in
    let h : p.i < length p.member-items = omega arith in
    let same : length p.member-items ≡ length s.members.items = p.auto.member-items ∙ ap length at.ensures.value in
    let focusing = focusing-next g.V.View.meaning c.args.id s p.current f.result p.i p.member-items c.member-item.result f.new.self h same
    f.ensures.found f.ensures.left f.ensures.moved p.invariant.focusing in
    let next : c.if-has.current ≡ option_or p.current (then_some f.result p.i) =
    elim c.if-has.branch [
      | GroupOf::focus_to-then-has+then-is_none w ↦ w.current-is ∙ first-found p.current f.result p.i w.if-has.true (w.is_none.ensures ∙ ap not w.if-is_none.true)
      | GroupOf::focus_to-else-has w ↦
          w.current-is
          ∙ elim w.else-has.branch [
            | GroupOf::focus_to-else-has-via-then-has+else-is_none u ↦ found-before p.current f.result p.i (u.is_none.ensures ∙ ap not u.if-is_none.false)
            | GroupOf::focus_to-else-has-via-else-has u ↦ not-found p.current f.result p.i u.if-has.false
          ]
    ] in
    let m = c.member-item.result in
    record {
      unvisited = search rules;
      focusing = rw next focusing;
      damaged = damage-next g.V.View.meaning s.current s.current p.i p.member-items m f.new.self (opened_from g.V.View.meaning s.current 0 s.members.items) [] p.inner f.new.damage h c.member-item.is
          (rw c.member-item.is f.ensures.damage) p.invariant.damaged;
    }

pub GroupOf::focus_to-returns-clause-found : goal.GroupOf::focus_to-returns-clause-found
GroupOf::focus_to-returns-clause-found g t c =
    let s = c.args.self.now in let p = c.loop-i in let at = c.deref_mut-member-items in
    let h : length s.members.items ≤ p.i = omega (arith, ap length at.ensures.value) in
    c.is_some.ensures ∙ focusing-found g.V.View.meaning c.args.id s p.current p.i p.member-items h p.invariant.focusing

pub GroupOf::focus_to-returns-clause-leaves : goal.GroupOf::focus_to-returns-clause-leaves
GroupOf::focus_to-returns-clause-leaves g t c =
    let s = c.args.self.now in let p = c.loop-i in let at = c.deref_mut-member-items in
    let h : length p.member-items ≤ p.i = omega arith in
    let same : length p.member-items ≡ length s.members.items = p.auto.member-items ∙ ap length at.ensures.value in
    focusing-all g.V.View.meaning c.args.id s p.current p.i p.member-items h same p.invariant.focusing

pub GroupOf::focus_to-returns-clause-damage : goal.GroupOf::focus_to-returns-clause-damage
GroupOf::focus_to-returns-clause-damage g t c =
    let look = g.V.View.meaning in let s = c.args.self.now in let p = c.loop-i in let at = c.deref_mut-member-items in
    let h : length p.member-items ≤ p.i = omega arith in
    let all = rw c.rect.ensures.is at c.add_within.ensures.added in
    let grown = rw c.rect.ensures.is at c.add_within.ensures.grown in
    let drawn = damage-marked look s.current p.current p.i p.member-items (opened_from look s.current p.i p.member-items) (opened_from look s.current 0 s.members.items) [] p.inner p.invariant.damaged in
    damage-done look p.current s p.i p.member-items p.inner c.add_within.new.self c.args.damage.now (p.auto.member-items ∙ ap length at.ensures.value) h drawn all grown

pub MemberOf::focus_to-returns-in-Leaf-clause-found : goal.MemberOf::focus_to-returns-in-Leaf-clause-found
MemberOf::focus_to-returns-in-Leaf-clause-found g t c =
    let look = g.V.View.meaning in let id = c.args.id in
    c.focus_to.ensures.found ∙ ap (λ v. takes_focus id (look v)) c.in-Leaf.view-is
    ∙ sym (ap (has_control id) (member-leaf look c.args.self.now c.in-Leaf.view c.in-Leaf.is) ∙ has_control-alone id (look c.in-Leaf.view))

pub MemberOf::focus_to-returns-in-Leaf-clause-left : goal.MemberOf::focus_to-returns-in-Leaf-clause-left
MemberOf::focus_to-returns-in-Leaf-clause-left g t c =
    let look = g.V.View.meaning in let v = c.in-Leaf.view in let w = c.focus_to.new.self in
    let told = c.focus_to.ensures.moved ∙ ap (λ x. focused_to c.args.id (look x)) c.in-Leaf.view-is in
    rw (c.in-Leaf.is, outs-Leaf c.in-Leaf.view, opened_member-leaf look v, opened_member-leaf look w)
    (leaf-left c.args.id (look v) (look w) told)

pub MemberOf::focus_to-returns-in-Leaf-clause-moved : goal.MemberOf::focus_to-returns-in-Leaf-clause-moved
MemberOf::focus_to-returns-in-Leaf-clause-moved g t c =
    let look = g.V.View.meaning in let v = c.in-Leaf.view in let w = c.focus_to.new.self in
    let told = c.focus_to.ensures.moved ∙ ap (λ x. focused_to c.args.id (look x)) c.in-Leaf.view-is in
    rw (c.in-Leaf.is, outs-Leaf c.in-Leaf.view, opened_member-leaf look v, opened_member-leaf look w)
    (leaf-moved c.args.id (look v) (look w) told)

pub MemberOf::focus_to-returns-in-Leaf-clause-damage : goal.MemberOf::focus_to-returns-in-Leaf-clause-damage
MemberOf::focus_to-returns-in-Leaf-clause-damage g t c =
    let look = g.V.View.meaning in
    rw (c.in-Leaf.is, outs-Leaf c.in-Leaf.view)
    (drawn-member-leaf look c.in-Leaf.view c.focus_to.new.self c.args.damage.now c.focus_to.new.damage (rw c.in-Leaf.view-is at c.focus_to.ensures.damage))

pub MemberOf::focus_to-returns-in-Pane-clause-found : goal.MemberOf::focus_to-returns-in-Pane-clause-found
MemberOf::focus_to-returns-in-Pane-clause-found g t c =
    let look = g.V.View.meaning in
    c.focus_to-in-Pane.ensures.found ∙ ap (λ x. has_control c.args.id (opened look x)) c.in-Pane.group-is
    ∙ sym (ap (has_control c.args.id) (member-pane look c.args.self.now c.in-Pane.group c.in-Pane.is))

pub MemberOf::focus_to-returns-in-Pane-clause-left : goal.MemberOf::focus_to-returns-in-Pane-clause-left
MemberOf::focus_to-returns-in-Pane-clause-left g t c =
    let look = g.V.View.meaning in let h = c.focus_to-in-Pane in
    let told = h.ensures.leaves ∙ ap (λ x. all_focused c.args.id (opened look x)) c.in-Pane.group-is in
    rw (c.in-Pane.is, outs-Pane c.in-Pane.group) (pane-left look c.args.id c.in-Pane.group h.new.self told)

pub MemberOf::focus_to-returns-in-Pane-clause-moved : goal.MemberOf::focus_to-returns-in-Pane-clause-moved
MemberOf::focus_to-returns-in-Pane-clause-moved g t c =
    let look = g.V.View.meaning in let h = c.focus_to-in-Pane in
    let told = h.ensures.leaves ∙ ap (λ x. all_focused c.args.id (opened look x)) c.in-Pane.group-is in
    rw (c.in-Pane.is, outs-Pane c.in-Pane.group) (λ _. pane-moved look c.args.id c.in-Pane.group h.new.self told)

pub MemberOf::focus_to-returns-in-Pane-clause-damage : goal.MemberOf::focus_to-returns-in-Pane-clause-damage
MemberOf::focus_to-returns-in-Pane-clause-damage g t c =
    let look = g.V.View.meaning in let h = c.focus_to-in-Pane in
    rw (c.in-Pane.is, outs-Pane c.in-Pane.group)
    (drawn-member-pane look c.in-Pane.group h.new.self _ c.args.damage.now h.new.damage (rw c.in-Pane.group-is at h.ensures.damage))
