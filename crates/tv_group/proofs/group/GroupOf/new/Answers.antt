use Rattle.std.proofs.Common.{None, map, ap, ◌∙◌, ◌+◌}
use Rattle.tv_view.specs.Meaning.{inside}
use Rattle.tv_group.specs.Opened.{joined, opened_member}
use Rattle.tv_group.proofs.OpenedLemmas.{opened-rolled}
use Rattle.tv_group.proofs.group.GroupOf.new.Goals as goal

pub returns-then-highest-lt8-clause-leaves : goal.returns-then-highest-lt8-clause-leaves
returns-then-highest-lt8-clause-leaves g c =
    let look = g.V.View.meaning in
    opened-rolled look (record { level = c.loop-member.highest + 1; bounds = c.new.result; members = c.args.members; current = None })
    ∙ ap (λ b. map (inside b) (joined None 0 (map (opened_member look) c.args.members.items))) c.new.ensures
