use Rattle.std.proofs.Common.{◌≡◌, ◌≤◌, ◌+◌, ◌++◌, false, length, map, refl, sym, ap, ◌∙◌, arith, rules, subst, IfOk}
use Rattle.std.proofs.lemmas.Result.{IfOk-weaker}
use Rattle.tv_group.specs.Outline.{declared, joined_outline}
use Rattle.tv_group.specs.declared.group.MemberOf.TheVariants as members
use Rattle.tv_model.specs.Description.Nodes.{height_of, is_pane}
use Rattle.tv_model.specs.Description.Rectangles.{rect}
use Rattle.tv_app.specs.Control.{control_leaf}
use Rattle.tv_view.specs.Meaning.{fresh}
use Rattle.tv_app.proofs.BuildableLemmas.{after_pane, behind_leaf, depth_is, first_lawful, leaf_node, not_pane, one_behind}
use Rattle.tv_app.proofs.MemberLemmas.{leaf_added, leaf_low, pane_added, pane_low}
use Rattle.tv_app.proofs.making.+add_members.Goals as goal

-- the view is a leaf's
pub of_leaf-requires : goal.of_leaf-requires
of_leaf-requires g t c =
    let first = c.in-Some.ensures.cases.0 in
    let own = first_lawful c.args.panes c.args.views.now c.in-Some.view.now c.in-Some.behind.now first c.requires.views in
    let leaf : is_pane c.in-Some.view.now.kind ≡ false = search (rules, not_pane) in
    leaf_node c.in-Some.view.now own leaf

pub add_members-requires-in-Pane : goal.add_members-requires-in-Pane
add_members-requires-in-Pane g t c =
    let first = c.in-Some.ensures.cases.0 in
    let size = one_behind c.args.views.now c.in-Some.view.now c.in-Some.behind.now first in
    let fewer = c.in_ok-after-in-Pane.ensures.fewer in
    λ κs ends. (
      omega (arith, c.decreases, size, fewer),
      (
        ends.0,
        (
          ends.1,
          (
            c.requires.callable,
            (
              c.requires.keep,
              (
                after_pane c.args.panes c.in_ok-after-in-Pane.after.now c.in_ok-after-in-Pane.ensures.left,
                pane_low c.args.members.now.items c.push.new.self.items c.add_members.new.members.items (members.Pane c.group_of.result) c.group_of.result c.args.panes
                    refl (search rules) c.group_of.ensures.level c.in_ok-after-in-Pane.ensures.level c.requires.level,
              ),
            ),
          ),
        ),
      ),
    )

pub add_members-requires-in_default-kind : goal.add_members-requires-in_default-kind
add_members-requires-in_default-kind g t c =
    let first = c.in-Some.ensures.cases.0 in
    let size = one_behind c.args.views.now c.in-Some.view.now c.in-Some.behind.now first in
    let leaf : is_pane c.in-Some.view.now.kind ≡ false = search (rules, not_pane) in
    let depth = depth_is c.args.panes c.args.views.now c.in-Some.view.now c.in-Some.behind.now first c.requires.views c.if-view-panes.false in
    λ κs ends. (
      omega (arith, c.decreases, size),
      (
        ends.0,
        (
          ends.1,
          (
            c.requires.callable,
            (
              c.requires.keep,
              (
                behind_leaf c.args.panes c.args.views.now c.in-Some.view.now c.in-Some.behind.now first c.requires.views leaf depth,
                leaf_low c.args.members.now.items c.push-in_default-kind.new.self.items (members.Leaf c.in_ok-keep-in_default-kind.field-0) c.in_ok-keep-in_default-kind.field-0 c.args.panes
                    refl (search rules) c.requires.level,
              ),
            ),
          ),
        ),
      ),
    )

pub returns-in_ok-push-in-Pane-clause-added : goal.returns-in_ok-push-in-Pane-clause-added
returns-in_ok-push-in-Pane-clause-added g t c =
    let old = c.args.members.now.items in
    let new = c.push.new.self.items in
    let inner = c.add_members.new.members.items in
    let view = c.in-Some.view.now in
    let behind = c.in-Some.behind.now in
    let after = c.in_ok-after-in-Pane.after.now in
    let panes = c.args.panes in
    let first = c.in-Some.ensures.cases.0 in
    let depth = depth_is panes c.args.views.now view behind first c.requires.views c.if-view-panes.false in
    let place = c.group_of.ensures.bounds ∙ c.rect_at-bounds.ensures ∙ ap (λ kind. rect view.x view.y view.w (height_of kind)) (sym c.in-Pane.is) in
    let made = c.in_ok-after-in-Pane.ensures.added ∙ ap (λ ms. joined_outline g.V.View.meaning ms (panes + 1 + 1) ++ map declared behind) c.new-inner.ensures.items in
    let added =
    pane_added g.V.View.meaning old new inner (members.Pane c.group_of.result) c.group_of.result view behind after panes
    refl (search rules) place (ap is_pane c.in-Pane.is) depth c.group_of.ensures.outline made
    ∙ ap (λ vs. joined_outline g.V.View.meaning old (panes + 1) ++ map declared vs) (sym first) in
    IfOk-weaker c.add_members-in-Pane.result
    (λ left. joined_outline g.V.View.meaning c.add_members-in-Pane.new.members.items (panes + 1) ++ map declared left.now ≡ joined_outline g.V.View.meaning new (panes + 1) ++ map declared after)
    (λ left. joined_outline g.V.View.meaning c.add_members-in-Pane.new.members.items (panes + 1) ++ map declared left.now ≡ joined_outline g.V.View.meaning old (panes + 1) ++ map declared c.args.views.now)
    (λ left is. is ∙ added) c.add_members-in-Pane.ensures.added

pub returns-in_ok-push-in_default-kind : goal.returns-in_ok-push-in_default-kind
returns-in_ok-push-in_default-kind g t c =
    let old = c.args.members.now.items in
    let new = c.push-in_default-kind.new.self.items in
    let control = c.in_ok-keep-in_default-kind.field-0 in
    let view = c.in-Some.view.now in
    let behind = c.in-Some.behind.now in
    let panes = c.args.panes in
    let first = c.in-Some.ensures.cases.0 in
    let size = one_behind c.args.views.now view behind first in
    let leaf : is_pane c.in-Some.view.now.kind ≡ false = search (rules, not_pane) in
    let depth = depth_is panes c.args.views.now view behind first c.requires.views c.if-view-panes.false in
    let made : g.V.View.meaning control ≡ fresh view =
    subst (λ answer. IfOk answer (λ kept. g.V.View.meaning kept ≡ control_leaf c.in_ok-control-in_default-kind.control)) c.in_ok-keep-in_default-kind.was
    (c.requires.keep c.in_ok-control-in_default-kind.control c.keep.result c.keep.ensures)
    ∙ c.in_ok-control-in_default-kind.ensures in
    let added =
    leaf_added g.V.View.meaning old new (members.Leaf control) control view behind panes
    refl (search rules) made leaf depth
    ∙ ap (λ vs. joined_outline g.V.View.meaning old (panes + 1) ++ map declared vs) (sym first) in
    record {
      added = IfOk-weaker c.add_members-in_default-kind.result
          (λ left. joined_outline g.V.View.meaning c.add_members-in_default-kind.new.members.items (panes + 1) ++ map declared left.now ≡ joined_outline g.V.View.meaning new (panes + 1) ++ map declared behind)
          (λ left. joined_outline g.V.View.meaning c.add_members-in_default-kind.new.members.items (panes + 1) ++ map declared left.now ≡ joined_outline g.V.View.meaning old (panes + 1) ++ map declared c.args.views.now)
          (λ left is. is ∙ added) c.add_members-in_default-kind.ensures.added;
      level = c.add_members-in_default-kind.ensures.level;
      left = c.add_members-in_default-kind.ensures.left;
      fewer = IfOk-weaker c.add_members-in_default-kind.result
          (λ left. length left.now ≤ length behind)
          (λ left. length left.now ≤ length c.args.views.now)
          (λ left few. omega (arith, few, size)) c.add_members-in_default-kind.ensures.fewer;
    }
