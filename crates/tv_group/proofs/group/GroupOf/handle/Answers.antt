use Rattle.std.proofs.Common.{ap, sym, ◌∙◌}
use Rattle.std.specs.Prelude.{unwrap_or}
use Rattle.tv_view.specs.declared.reaction.Reaction.TheVariants.{Pass}
use Rattle.tv_group.specs.Handling.{group_after, group_answer}
use Rattle.tv_group.specs.Opened.{opened}
use Rattle.tv_group.proofs.HandlingLemmas.{group_after-down, group_after-scan, group_answer-down, group_answer-scan}
use Rattle.tv_group.proofs.group.GroupOf.handle.Goals as goal

pub returns-in-Down-clause-reaction : goal.returns-in-Down-clause-reaction
returns-in-Down-clause-reaction g c =
    let ph = c.args.phase in let env = c.args.env.now in let xs = opened g.V.View.meaning c.args.self.now in
    c.unwrap_or.ensures
    ∙ ap (λ o. unwrap_or o Pass) c.down.ensures.reaction
    ∙ group_answer-down c.in-Down.point ph env xs
    ∙ ap (λ e. group_answer e ph env xs) (sym c.in-Down.is)

pub returns-in-Down-clause-after : goal.returns-in-Down-clause-after
returns-in-Down-clause-after g c =
    let ph = c.args.phase in let env = c.args.env.now in let xs = opened g.V.View.meaning c.args.self.now in
    c.down.ensures.after
    ∙ group_after-down c.in-Down.point ph env xs
    ∙ ap (λ e. group_after e ph env xs) (sym c.in-Down.is)

pub returns-in_default-clause-reaction : goal.returns-in_default-clause-reaction
returns-in_default-clause-reaction g c =
    let xs = opened g.V.View.meaning c.args.self.now in
    c.scan.ensures.reaction ∙ group_answer-scan c.args.event.now c.args.phase c.args.env.now xs c.in_default.not-Down

pub returns-in_default-clause-after : goal.returns-in_default-clause-after
returns-in_default-clause-after g c =
    let xs = opened g.V.View.meaning c.args.self.now in
    c.scan.ensures.after ∙ group_after-scan c.args.event.now c.args.phase c.args.env.now xs c.in_default.not-Down
