use Rattle.std.proofs.Common.{arith, ◌≡◌, ◌<◌, ◌≤◌, length, ap, sym, ◌∙◌}
use Rattle.tv_cells.specs.Canvas.{sub}
use Rattle.tv_group.proofs.OpenedLemmas.{item_at}
use Rattle.tv_group.proofs.DrawingLemmas.{drawn-none, drawn-next, drawn-whole, drawn-far, drawn-missed, drawn-leaf, drawn-pane}
use Rattle.tv_group.proofs.group.+draw.Goals as goal
use Rattle.tv_group.proofs.group.+draw.Goals.{GroupOf::draw-then-not-is_near-via-then-not-is_near, GroupOf::draw-then-not-is_near-via-else-not-is_near+then-is_empty}

pub GroupOf::draw-returns-then-not-is_near : goal.GroupOf::draw-returns-then-not-is_near
GroupOf::draw-returns-then-not-is_near g t c =
    let look = g.V.View.meaning in
    let inner = c.sub-inner.result in
    let is : inner ≡ sub c.args.canvas c.args.self.now.bounds = c.sub-inner.ensures ∙ ap (sub c.args.canvas) c.rect.ensures.is in
    elim c.then-not-is_near.branch [
      | GroupOf::draw-then-not-is_near-via-then-not-is_near w ↦
          drawn-far look c.args.env.now c.args.canvas c.args.self.now inner c.args.screen.now is (sym c.is_near.ensures ∙ w.if-not-is_near.true)
      | GroupOf::draw-then-not-is_near-via-else-not-is_near+then-is_empty w ↦
          drawn-missed look c.args.env.now c.args.canvas c.args.self.now inner c.args.screen.now is (sym c.is_near.ensures ∙ w.if-not-is_near.false)
          (w.is_empty.ensures.0 w.if-is_empty.true)
    ]

pub GroupOf::draw-loop-member-init : goal.GroupOf::draw-loop-member-init
GroupOf::draw-loop-member-init g t c = drawn-none g.V.View.meaning c.args.env.now c.sub-inner.result c.args.self.now.current c.args.self.now.members.items c.args.screen.now

pub GroupOf::draw-loop-member-preserved : goal.GroupOf::draw-loop-member-preserved
GroupOf::draw-loop-member-preserved g t c =
    let s = c.args.self.now in let p = c.loop-member in let at = c.deref-member-items in
    let h : p.member-index < length s.members.items = omega (arith, ap length at.ensures.value) in
    drawn-next g.V.View.meaning c.args.env.now c.sub-inner.result s.current p.member-index s.members.items c.member-item.result c.args.screen.now p.screen c.draw.new.screen h
    (item_at p.member-index at.result.now s.members.items c.member-item.result at.ensures.value c.member-item.is) p.invariant c.draw.ensures

pub GroupOf::draw-returns : goal.GroupOf::draw-returns
GroupOf::draw-returns g t c =
    let s = c.args.self.now in let p = c.loop-member in let at = c.deref-member-items in
    let h : length s.members.items ≤ p.member-index = omega (arith, ap length at.ensures.value) in
    drawn-whole g.V.View.meaning c.args.env.now c.args.canvas s p.member-index c.sub-inner.result c.args.screen.now p.screen
    (c.sub-inner.ensures ∙ ap (sub c.args.canvas) c.rect.ensures.is) (sym c.is_near.ensures ∙ c.if-not-is_near.false) h p.invariant

pub MemberOf::draw-returns-in-Leaf : goal.MemberOf::draw-returns-in-Leaf
MemberOf::draw-returns-in-Leaf g t c =
    drawn-leaf g.V.View.meaning c.args.env.now c.args.canvas c.args.self.now c.in-Leaf.view c.args.screen.now c.draw.new.screen c.in-Leaf.is c.draw.ensures

pub MemberOf::draw-returns-in-Pane : goal.MemberOf::draw-returns-in-Pane
MemberOf::draw-returns-in-Pane g t c =
    drawn-pane g.V.View.meaning c.args.env.now c.args.canvas c.args.self.now c.in-Pane.group c.args.screen.now c.draw-in-Pane.new.screen c.in-Pane.is c.draw-in-Pane.ensures
