use Rattle.std.proofs.Common.{◌≡◌, List, All, Any, sym, subst, ◌∙◌}
use Rattle.tv_model.specs.declared.desc.Rule.{Rule}
use Rattle.tv_model.specs.declared.node.Node.{Node}
use Rattle.tv_reach.specs.declared.shown.ShownLeaf.{ShownLeaf}
use Rattle.tv_reach.specs.Masks.{AreMasksOf}
use Rattle.tv_reach.specs.Shown.{AreClosed, AreShownLeaves, HasStart, IsLeafFollowed}
use Rattle.tv_reach.proofs.ClosedLemmas.{closes}
use Rattle.tv_reach.proofs.ExactLemmas.{leads_found, starts_found}
use Rattle.tv_reach.proofs.closed.is_closed.Goals as goal

pub returns-clause-exact : goal.returns-clause-exact
returns-clause-exact c = λ lawful few within closed.
    let d = c.args.dialog.now in
    let masks = c.args.masks.now in
    let leaves = c.deref.result.now in
    let rules : d.rules ≡ c.as_slice-rules.result.now = sym c.as_slice-rules.ensures in
    let views = sym (c.in_ok-names.ensures ∙ c.as_slice-views.ensures) in
    let shown : AreShownLeaves d.views d.rules leaves
    = subst (λ (ls : List ShownLeaf). AreShownLeaves d.views d.rules ls) (sym c.deref.ensures.value)
    (subst (λ (rs : List Rule). AreShownLeaves d.views rs c.in_ok-leaves.leaves.items) c.as_slice-rules.ensures
    (subst (λ (vs : List Node). AreShownLeaves vs c.as_slice-rules.result.now c.in_ok-leaves.leaves.items) c.as_slice-views.ensures c.in_ok-leaves.ensures)) in
    c.are_closed.ensures.exact (subst (λ (rs : List Rule). AreMasksOf rs masks) rules within)
    (subst (λ (vs : List Node). Any (HasStart vs c.as_slice-rules.result.now leaves) masks) views
    (subst (λ (rs : List Rule). Any (HasStart d.views rs leaves) masks) rules (starts_found d lawful masks leaves shown closed)))
    (subst (λ (vs : List Node). All (IsLeafFollowed vs c.as_slice-rules.result.now masks) leaves) views
    (subst (λ (rs : List Rule). All (IsLeafFollowed d.views rs masks) leaves) rules (leads_found d lawful masks leaves shown closed)))

pub returns-clause-closed : goal.returns-clause-closed
returns-clause-closed c = λ e.
    let d = c.args.dialog.now in
    let masks = c.args.masks.now in
    let leaves = c.deref.result.now in
    closes d masks leaves
    (subst (λ (ls : List ShownLeaf). AreShownLeaves d.views d.rules ls) (sym c.deref.ensures.value)
    (subst (λ (rs : List Rule). AreShownLeaves d.views rs c.in_ok-leaves.leaves.items) c.as_slice-rules.ensures
    (subst (λ (vs : List Node). AreShownLeaves vs c.as_slice-rules.result.now c.in_ok-leaves.leaves.items) c.as_slice-views.ensures c.in_ok-leaves.ensures)))
    (subst (λ (rs : List Rule). AreClosed d.views rs masks leaves) c.as_slice-rules.ensures
    (subst (λ (vs : List Node). AreClosed vs c.as_slice-rules.result.now masks leaves) (c.in_ok-names.ensures ∙ c.as_slice-views.ensures)
    (c.are_closed.ensures.closed e)))
