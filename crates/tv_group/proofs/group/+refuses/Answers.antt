use Rattle.std.proofs.Common.{arith, if◌then◌else◌, ◌<◌, ◌≤◌, length, sym, ap, ◌∙◌, None}
use Rattle.tv_view.specs.Calls.{invalid_id}
use Rattle.tv_group.specs.Calls.{refused_in}
use Rattle.tv_group.proofs.OpenedLemmas.{item_at}
use Rattle.tv_group.proofs.RefusedLemmas.{refused-none, refused-at, refused-past, refused-leaf, refused-pane}
use Rattle.tv_group.proofs.group.+refuses.Goals as goal

pub GroupOf::refuses-returns-in_err-self : goal.GroupOf::refuses-returns-in_err-self
unfolding refused_in
GroupOf::refuses-returns-in_err-self g t c = c.from_residual.ensures ∙ refused-none g.V.View.meaning c.args.self.now c.in_err-self.was

pub GroupOf::refuses-returns-in_err-get : goal.GroupOf::refuses-returns-in_err-get
unfolding refused_in
GroupOf::refuses-returns-in_err-get g t c =
    let s = c.args.self.now in let k = c.in_ok-self.field-0 in
    let h : length s.members.items ≤ k = omega (arith, c.in_err-get.ensures.lookup.3, ap length c.deref.ensures.value) in
    c.from_residual-in_err-get.ensures ∙ refused-past g.V.View.meaning s k c.in_ok-self.was h

pub GroupOf::refuses-returns : goal.GroupOf::refuses-returns
unfolding refused_in
GroupOf::refuses-returns g t c =
    let s = c.args.self.now in let k = c.in_ok-self.field-0 in let m = c.in_ok-get.field-0.now in
    let h : k < length s.members.items = omega (arith, c.in_ok-get.ensures.lookup.3.0, ap length c.deref.ensures.value) in
    c.refuses.ensures ∙ refused-at g.V.View.meaning s k m c.in_ok-self.was h (item_at k c.deref.result.now s.members.items m c.deref.ensures.value c.in_ok-get.ensures.lookup.1)

pub MemberOf::refuses-returns-in-Leaf : goal.MemberOf::refuses-returns-in-Leaf
unfolding refused_in
MemberOf::refuses-returns-in-Leaf g t c =
    let look = g.V.View.meaning in let v = c.in-Leaf.view in
    c.first_invalid.ensures ∙ ap (λ b. if b then invalid_id (look v) else None) (sym c.if-is_validated.true)
    ∙ refused-leaf look c.args.self.now v c.is_validated.result c.in-Leaf.is c.is_validated.ensures

pub MemberOf::refuses-returns-in-Leaf-2 : goal.MemberOf::refuses-returns-in-Leaf-2
unfolding refused_in
MemberOf::refuses-returns-in-Leaf-2 g t c =
    let look = g.V.View.meaning in let v = c.in-Leaf.view in
    ap (λ b. if b then invalid_id (look v) else None) (sym c.if-is_validated.false)
    ∙ refused-leaf look c.args.self.now v c.is_validated.result c.in-Leaf.is c.is_validated.ensures

pub MemberOf::refuses-returns-in-Pane : goal.MemberOf::refuses-returns-in-Pane
unfolding refused_in
MemberOf::refuses-returns-in-Pane g t c = c.refuses.ensures ∙ refused-pane g.V.View.meaning c.args.self.now c.in-Pane.group c.in-Pane.is
