use Rattle.std.proofs.Common.{sym, ap, ◌∙◌, if◌then◌else◌}
use Rattle.tv_view.specs.Colours.{linked_by}
use Rattle.tv_view.specs.Reactions.{calls, focus_on}
use Rattle.tv_view.specs.declared.reaction.Reaction.TheVariants.{Pass}
use Rattle.tv_view.specs.Core.{plain_leaf}
use Rattle.tv_controls.proofs.LabelLemmas.{label_answer, label_of}
use Rattle.tv_controls.proofs.label.Label.key_answer.Goals as goal

pub returns-then-is_called : goal.returns-then-is_called
returns-then-is_called c =
    let leaf = plain_leaf c.args.self.now.core in
    let env = c.args.env.now in
    let l = label_of leaf.node.kind c.args.self.now.own_kind in
    let calls_it = ap (calls l.0.text) (sym c.called.ensures) ∙ sym (c.is_called.ensures l.0 l.1) ∙ c.if-is_called.true in
    c.focus_on.ensures ∙ ap focus_on c.link.ensures
    ∙ sym (label_answer c.args.key c.args.phase env leaf l.0 l.1
    ∙ ap (λ t. if t then focus_on (linked_by env leaf.node.kind) else Pass) calls_it)

pub returns-else-is_called : goal.returns-else-is_called
returns-else-is_called c =
    let leaf = plain_leaf c.args.self.now.core in
    let env = c.args.env.now in
    let l = label_of leaf.node.kind c.args.self.now.own_kind in
    let passes = ap (calls l.0.text) (sym c.called.ensures) ∙ sym (c.is_called.ensures l.0 l.1) ∙ c.if-is_called.false in
    sym (label_answer c.args.key c.args.phase env leaf l.0 l.1
    ∙ ap (λ t. if t then focus_on (linked_by env leaf.node.kind) else Pass) passes)
