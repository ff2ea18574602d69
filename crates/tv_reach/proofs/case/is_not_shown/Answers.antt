use Rattle.std.proofs.Common.{◌≡◌, ◌∙◌, ap, sym}
use Rattle.tv_machine.proofs.ListLemmas.{same-id}
use Rattle.tv_reach.proofs.FoundLemmas.{never_shown, none_shown}
use Rattle.tv_reach.proofs.case.is_not_shown.Goals as goal

pub returns-then-eq : goal.returns-then-eq
returns-then-eq c = λ placed is.
    let case = c.args.case.now in
    let shown = c.args.leaf.now in
    let here : placed.node.id ≡ c.args.id
    = sym (ap (λ node. node.id) is.node) ∙ same-id shown.node.now.id c.args.id (sym c.eq.ensures ∙ c.if-eq.true) in (
      (λ e id. never_shown case placed shown is (c.is_in_none.ensures.0 e)),
      (λ never. c.is_in_none.ensures.1 (none_shown case placed shown is (never here))),
    )
