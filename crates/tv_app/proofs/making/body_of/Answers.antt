use Rattle.std.proofs.Common.{◌++◌, map, ap, ◌∙◌}
use Rattle.tv_group.specs.Outline.{declared, joined_outline}
use Rattle.tv_app.proofs.MemberLemmas.{body_fresh}
use Rattle.tv_app.proofs.making.body_of.Goals as goal

pub returns : goal.returns
returns g c =
    body_fresh g.V.View.meaning c.args.owner.now c.args.views.now c.in_ok-add_members.field-0.now c.add_members.new.members.items c.body_rect.result c.group_of.result
    c.requires.owner c.body_rect.ensures.is c.group_of.ensures.bounds c.group_of.ensures.leaves c.group_of.ensures.outline
    (c.in_ok-add_members.ensures.added ∙ ap (λ ms. joined_outline g.V.View.meaning ms 1 ++ map declared c.args.views.now) c.new-members.ensures.items)
    c.in_ok-add_members.ensures.left
