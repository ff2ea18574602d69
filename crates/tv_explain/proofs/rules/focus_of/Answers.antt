use Rattle.std.proofs.Common.{◌≡◌, get_or, subst, take, ◌∙◌}
use Rattle.tv_model.specs.declared.node.Node.{Node}
use Rattle.tv_explain.specs.Rules.{reaching_line}
use Rattle.tv_explain.proofs.FocusLemmas.{none_reached, reached_by}
use Rattle.tv_explain.proofs.rules.focus_of.Goals as goal

pub returns-in-None : goal.returns-in-None
returns-in-None c = c.because-none.ensures ∙ none_reached c.args.rules.now c.args.views.now c.in-None.ensures

pub returns-in_ok-names-in-Some : goal.returns-in_ok-names-in-Some
returns-in_ok-names-in-Some c =
    let place = c.in-Some.place in
    let line = c.reaching_line-line.result in
    let rules = c.args.rules.now in
    let reached = subst (λ views. (view : Node) → line ≡ reaching_line rules views (take place views) (get_or views place view)) c.in_ok-names-in-Some.ensures c.reaching_line-line.ensures in
    c.because-reached.ensures ∙ reached_by rules c.args.views.now place line c.in-Some.ensures reached
