use Rattle.std.proofs.Common.{sym, ◌∙◌}
use Rattle.std.proofs.lemmas.Bool.{true≢false}
use Rattle.tv_reach.proofs.ReasonLemmas.{found_opened}
use Rattle.tv_reach.proofs.reason.reason_against.Goals as goal

pub returns-clause-found : goal.returns-clause-found
returns-clause-found c =
    found_opened c.args.desc.now c.args.dialog.now c.args.masks.now c.args.goal c.reason_in.result
    (λ never. true≢false (sym (c.is_never_opened.ensures.exact never) ∙ c.if-is_never_opened.false)) c.reason_in.ensures.found
