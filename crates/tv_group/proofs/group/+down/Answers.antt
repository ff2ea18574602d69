use Rattle.std.proofs.Common.{rules, arith, ◌≡◌, ◌+◌, ◌-◌, ◌<◌, ◌≤◌, ◌∷◌, [], length, ap, sym, ◌∙◌, refl}
use Rattle.tv_cells.specs.Layers.{is_in}
use Rattle.tv_view.specs.Meaning.{alone}
use Rattle.tv_view.specs.Points.{point_into}
use Rattle.tv_group.specs.Opened.{opened, opened_member}
use Rattle.tv_group.specs.Turns.{down_after, down_here}
use Rattle.tv_group.specs.declared.group.MemberOf.TheVariants.{outs-Leaf, outs-Pane}
use Rattle.tv_group.proofs.DownLemmas.{down_after-leaf, down_after-pane, down_here-leaf, down_here-pane, fallen-group, falling-done, falling-hit, falling-init, falling-passed, missed-group}
use Rattle.tv_group.proofs.MembersLemmas.{leaves_of}
use Rattle.tv_group.proofs.DamageLemmas.{damage-group, damage-one, damage-still, drawn-member-leaf, drawn-member-pane}
use Rattle.tv_group.proofs.group.+down.Goals as goal

pub GroupOf::down-returns-then-not-has_point : goal.GroupOf::down-returns-then-not-has_point
GroupOf::down-returns-then-not-has_point g t c =
    let pt = c.args.point in
    let has = ap (λ r. is_in r pt.x pt.y) (sym c.rect-bounds.ensures.is) ∙ sym c.has_point.ensures in
    let missed = missed-group g.V.View.meaning pt c.args.phase c.args.env.now c.args.self.now (has ∙ c.if-not-has_point.true) in
    record { reaction = missed.0; after = missed.1; shape = (refl, refl); damage = damage-still g.V.View.meaning c.args.self.now c.args.self.now c.args.damage.now refl refl }

pub GroupOf::down-loop-i-init : goal.GroupOf::down-loop-i-init
GroupOf::down-loop-i-init g t c =
    let s = c.args.self.now in let inner = c.point_into-inner.result in
    let h : length s.members.items ≤ c.len-i.result = omega arith in
    record {
      unvisited = search rules;
      falling = falling-init g.V.View.meaning inner c.args.phase c.args.env.now s.current c.len-i.result s.members.items h;
      bounds = refl;
      level = refl;
      still = refl;
    }

pub GroupOf::down-returns-in-Some : goal.GroupOf::down-returns-in-Some
GroupOf::down-returns-in-Some g t c =
    let look = g.V.View.meaning in let ph = c.args.phase in let env = c.args.env.now in let pt = c.args.point in
    let s = c.args.self.now in let p = c.loop-i in let m = c.index_mut in
    let inner = c.point_into-inner.result in
    let h : p.i - 1 < length p.self.members.items = omega (arith, p.invariant.unvisited.0) in
    let at : p.i ≡ (p.i - 1) + 1 = omega arith in
    let has = ap (λ r. is_in r pt.x pt.y) (sym c.rect-bounds.ensures.is) ∙ sym c.has_point.ensures ∙ c.if-not-has_point.false in
    let is = c.point_into-inner.ensures ∙ ap (λ r. point_into r pt) c.rect-bounds.ensures.is in
    let hit =
    falling-hit look inner ph env (leaves_of look s.current s.members.items) p.self.current p.i p.self.members.items
    p.invariant.falling (p.i - 1) at h m.result.now c.down.new.self c.down.result
    (c.down.ensures.reaction ∙ ap (λ x. down_here inner ph env (opened_member look x)) m.ensures.value)
    (c.down.ensures.after ∙ ap (λ x. down_after inner ph env (opened_member look x)) m.ensures.value)
    c.in-Some.reaction c.in-Some.is in
    let done = fallen-group look pt ph env s _ _ inner has is p.invariant.bounds hit in
    let does = rw m.ensures.value at c.down.ensures.damage in
    let one = damage-one look p.self.current (p.i - 1) p.self.members.items m.result.now c.down.new.self (leaves_of look s.current s.members.items) p.own c.down.new.damage h p.invariant.falling.same does in
    record {
      reaction = done.0;
      after = done.1;
      shape = (p.invariant.bounds, p.invariant.level);
      damage = damage-group look s _ p.own c.down.new.damage c.args.damage.now c.add_within.new.self p.invariant.bounds one
          (rw c.rect-bounds.ensures.is at c.add_within.ensures.added) (rw (p.invariant.still, c.rect-bounds.ensures.is) at c.add_within.ensures.grown);
    }

pub GroupOf::down-loop-i-preserved : goal.GroupOf::down-loop-i-preserved
GroupOf::down-loop-i-preserved g t c =
    let look = g.V.View.meaning in let ph = c.args.phase in let env = c.args.env.now in
    let s = c.args.self.now in let p = c.loop-i in let m = c.index_mut in
    let inner = c.point_into-inner.result in
    let h : p.i - 1 < length p.self.members.items = omega (arith, p.invariant.unvisited.0) in
    let at : p.i ≡ (p.i - 1) + 1 = omega arith in
    record {
      unvisited = search rules;
      falling = falling-passed look inner ph env (leaves_of look s.current s.members.items) p.self.current p.i p.self.members.items
          p.invariant.falling (p.i - 1) at h m.result.now c.down.new.self c.down.result
          (c.down.ensures.reaction ∙ ap (λ x. down_here inner ph env (opened_member look x)) m.ensures.value)
          (c.down.ensures.after ∙ ap (λ x. down_after inner ph env (opened_member look x)) m.ensures.value)
          c.in_default.is;
      bounds = p.invariant.bounds;
      level = p.invariant.level;
      still = p.invariant.still;
    }

pub GroupOf::down-returns : goal.GroupOf::down-returns
GroupOf::down-returns g t c =
    let look = g.V.View.meaning in let ph = c.args.phase in let env = c.args.env.now in let pt = c.args.point in
    let s = c.args.self.now in let p = c.loop-i in
    let inner = c.point_into-inner.result in
    let zero : p.i ≡ 0 = omega arith in
    let has = ap (λ r. is_in r pt.x pt.y) (sym c.rect-bounds.ensures.is) ∙ sym c.has_point.ensures ∙ c.if-not-has_point.false in
    let is = c.point_into-inner.ensures ∙ ap (λ r. point_into r pt) c.rect-bounds.ensures.is in
    let none =
    falling-done look inner ph env (leaves_of look s.current s.members.items) p.self.current p.i p.self.members.items
    p.invariant.falling zero in
    let done = fallen-group look pt ph env s p.self _ inner has is p.invariant.bounds none in
    record {
      reaction = done.0;
      after = done.1;
      shape = (p.invariant.bounds, p.invariant.level);
      damage = rw p.invariant.still (damage-still look s p.self c.args.damage.now p.invariant.bounds p.invariant.falling.same);
    }

pub MemberOf::down-returns-in-Leaf : goal.MemberOf::down-returns-in-Leaf
MemberOf::down-returns-in-Leaf g t c =
    let look = g.V.View.meaning in let ph = c.args.phase in let env = c.args.env.now in let pt = c.args.point in
    record {
      reaction =
          c.hit.ensures.reaction
          ∙ ap (λ v. down_here pt ph env (alone (look v) ∷ [])) c.in-Leaf.view-is
          ∙ down_here-leaf look pt ph env c.args.self.now c.in-Leaf.view c.in-Leaf.is;
      after = rw (c.in-Leaf.is, outs-Leaf c.in-Leaf.view)
          (down_after-leaf look pt ph env c.in-Leaf.view c.hit.new.view
          (c.hit.ensures.after ∙ ap (λ v. down_after pt ph env (alone (look v) ∷ [])) c.in-Leaf.view-is));
      damage = rw (c.in-Leaf.is, outs-Leaf c.in-Leaf.view)
          (drawn-member-leaf look c.in-Leaf.view c.hit.new.view c.args.damage.now c.hit.new.damage (rw c.in-Leaf.view-is at c.hit.ensures.damage));
    }

pub MemberOf::down-returns-in-Pane : goal.MemberOf::down-returns-in-Pane
MemberOf::down-returns-in-Pane g t c =
    let look = g.V.View.meaning in let ph = c.args.phase in let env = c.args.env.now in let pt = c.args.point in
    record {
      reaction =
          c.down.ensures.reaction
          ∙ ap (λ x. down_here pt ph env (opened look x)) c.in-Pane.group-is
          ∙ down_here-pane look pt ph env c.args.self.now c.in-Pane.group c.in-Pane.is;
      after = rw (c.in-Pane.is, outs-Pane c.in-Pane.group)
          (down_after-pane look pt ph env c.in-Pane.group c.down.new.self
          (c.down.ensures.after ∙ ap (λ x. down_after pt ph env (opened look x)) c.in-Pane.group-is));
      damage = rw (c.in-Pane.is, outs-Pane c.in-Pane.group)
          (drawn-member-pane look c.in-Pane.group c.down.new.self _ c.args.damage.now c.down.new.damage (rw c.in-Pane.group-is at c.down.ensures.damage));
    }
