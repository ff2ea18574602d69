use Rattle.std.proofs.Common.{◌≡◌, ◌<◌, List, length, map, None, sym, ap, ◌∙◌, subst}
use Rattle.std.specs.Prelude.{IfOk, option_copied}
use Rattle.std.proofs.lemmas.Result.{IfOk-weaker}
use Rattle.tv_model.specs.declared.node.Node.{Node}
use Rattle.tv_model.specs.Description.Sharing.{sharer_of}
use Rattle.tv_names.specs.Sharing.{AreMarkersAt, RadioRules, RuledViews, first_separating, groups_of, lent_group, show_rules_of}
use Rattle.tv_names.proofs.SharingLemmas.{shared_by, unshared_by}
use Rattle.tv_names.proofs.sharing.Sharing.sharer.Goals as goal

pub returns-then-may_share : goal.returns-then-may_share
returns-then-may_share c =
    let views = c.self.inside.views.now in
    let all = c.self.inside.rules.now in
    let letter = c.args.letter in
    let places = c.as_slice-places.result.now in
    let at : AreMarkersAt views letter places = subst (AreMarkersAt views letter) (sym c.as_slice-places.ensures.value) c.in_ok-marked.ensures in
    let many : 1 < length places = c.may_share.ensures.many c.if-may_share.true in
    let groups : map lent_group c.as_slice-groups.result.now ≡ groups_of views (show_rules_of views all) =
    ap (map lent_group) c.as_slice-groups.ensures.value ∙ c.self.invariant.2 ∙ ap (groups_of views) c.self.invariant.1 in
    subst (λ (own : RuledViews). IfOk c.separating.result (λ radios. option_copied radios ≡ sharer_of own.views own.rules letter)) c.self.view_is
    (IfOk-weaker c.separating.result (λ radios. (view : Node) → option_copied radios ≡ first_separating views (map lent_group c.as_slice-groups.result.now) view places) (λ radios. option_copied radios ≡ sharer_of views all letter)
    (λ radios is. shared_by views all letter places (option_copied radios) at many (λ view. sym c.if-may_share.true ∙ c.may_share.ensures.value view)
    (λ view. is view ∙ ap (λ (list : List RadioRules). first_separating views list view places) groups))
    c.separating.ensures)

pub returns : goal.returns
returns c =
    let views = c.self.inside.views.now in
    let letter = c.args.letter in
    let places = c.as_slice-places.result.now in
    let at : AreMarkersAt views letter places = subst (AreMarkersAt views letter) (sym c.as_slice-places.ensures.value) c.in_ok-marked.ensures in
    subst (λ (own : RuledViews). None ≡ sharer_of own.views own.rules letter) c.self.view_is
    (unshared_by views c.self.inside.rules.now letter places at (λ view. sym c.if-may_share.false ∙ c.may_share.ensures.value view))
