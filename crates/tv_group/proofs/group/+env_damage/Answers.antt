use Rattle.std.proofs.Common.{arith, [], ◌<◌, ◌≤◌, length, ap}
use Rattle.tv_group.proofs.OpenedLemmas.{item_at}
use Rattle.tv_group.proofs.EnvDamageLemmas.{env-done, env-init, env-leaf, env-next, env-pane}
use Rattle.tv_group.proofs.group.+env_damage.Goals as goal

pub GroupOf::env_damage-loop-member-init : goal.GroupOf::env_damage-loop-member-init
GroupOf::env_damage-loop-member-init g t c =
    let s = c.args.self.now in
    rw c.new-inner.ensures (env-init c.args.old.now c.args.new.now g.V.View.meaning s.current s.members.items [])

pub GroupOf::env_damage-loop-member-preserved : goal.GroupOf::env_damage-loop-member-preserved
GroupOf::env_damage-loop-member-preserved g t c =
    let s = c.args.self.now in let p = c.loop-member in let at = c.deref-member-items in
    let h : p.member-index < length s.members.items = omega (arith, ap length at.ensures.value) in
    env-next c.args.old.now c.args.new.now g.V.View.meaning s.current p.member-index s.members.items c.member-item.result [] p.inner c.env_damage.new.damage h
    (item_at p.member-index at.result.now s.members.items c.member-item.result at.ensures.value c.member-item.is) p.invariant c.env_damage.ensures

pub GroupOf::env_damage-returns : goal.GroupOf::env_damage-returns
GroupOf::env_damage-returns g t c =
    let s = c.args.self.now in let p = c.loop-member in let at = c.deref-member-items in
    let h : length s.members.items ≤ p.member-index = omega (arith, ap length at.ensures.value) in
    env-done c.args.old.now c.args.new.now g.V.View.meaning s p.member-index [] p.inner c.args.damage.now c.add_within.new.self h p.invariant
    (rw c.rect.ensures.is at c.add_within.ensures.added) (rw c.rect.ensures.is at c.add_within.ensures.grown)

pub MemberOf::env_damage-returns-in-Leaf : goal.MemberOf::env_damage-returns-in-Leaf
MemberOf::env_damage-returns-in-Leaf g t c =
    env-leaf c.args.old.now c.args.new.now g.V.View.meaning c.args.self.now c.in-Leaf.view c.args.damage.now c.env_damage.new.damage c.in-Leaf.is c.env_damage.ensures

pub MemberOf::env_damage-returns-in-Pane : goal.MemberOf::env_damage-returns-in-Pane
MemberOf::env_damage-returns-in-Pane g t c =
    env-pane c.args.old.now c.args.new.now g.V.View.meaning c.args.self.now c.in-Pane.group _ c.args.damage.now c.env_damage-in-Pane.new.damage c.in-Pane.is c.env_damage-in-Pane.ensures
