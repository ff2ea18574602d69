use Rattle.std.proofs.Common.{◌≡◌, ◌∙◌, true, sym}
use Rattle.std.proofs.lemmas.Bool.{true≢false}
use Rattle.tv_reach.specs.Shown.{HasStart, IsPart}
use Rattle.tv_reach.proofs.MaskLemmas.{any-weaker}
use Rattle.tv_reach.proofs.closed.are_closed.Goals as goal

pub returns-then-any_contains-clause-closed : goal.returns-then-any_contains-clause-closed
returns-then-any_contains-clause-closed c = λ e. record {
  start = c.start_of-start.result;
  has = c.start_of-start.ensures.has;
  starts = c.any_contains.ensures.0 c.if-any_contains.true;
  leads = c.are_leaves_followed.ensures.followed e;
}

pub returns-then-any_contains-clause-exact : goal.returns-then-any_contains-clause-exact
returns-then-any_contains-clause-exact c = λ within starts leads. c.are_leaves_followed.ensures.exact within leads

pub returns-else-any_contains-clause-exact : goal.returns-else-any_contains-clause-exact
returns-else-any_contains-clause-exact c = λ within starts leads.
    let yes : c.any_contains.result ≡ true
    = c.any_contains.ensures.1
    (any-weaker (HasStart c.args.names.now c.args.rules.now c.args.leaves.now) (IsPart c.start_of-start.result)
    (λ mask has place started. has place (c.start_of-start.ensures.only place started)) c.args.masks.now starts) in
    absurd (true≢false (sym yes ∙ c.if-any_contains.false))
