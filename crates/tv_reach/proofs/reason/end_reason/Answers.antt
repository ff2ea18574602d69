use Rattle.std.proofs.Common.{◌≡◌, ◌∙◌, ℕ, true, Option, IfNone, IfSome, All, Any, sym, subst, rules}
use Rattle.std.proofs.lemmas.Bool.{true≢false}
use Rattle.tv_reach.specs.declared.case.Case.{Case}
use Rattle.tv_model.specs.declared.node.Id.{Id}
use Rattle.tv_machine.specs.Leaves.{leaf_list}
use Rattle.tv_reach.specs.Never.{Blocks, HasNoGiver, IsNeverGiven}
use Rattle.tv_reach.proofs.ReasonLemmas.{ends_lack}
use Rattle.tv_reach.proofs.reason.end_reason.Goals as goal

pub returns-then-is_without_giver-clause-found : goal.returns-then-is_without_giver-clause-found
returns-then-is_without_giver-clause-found c = (
  search rules,
  subst (λ (case : Case). HasNoGiver case.desc.now case.dialog.now c.args.command.0) c.givers_of-givers.ensures.case
      (subst (λ (n : ℕ). HasNoGiver c.givers_of-givers.result.case.now.desc.now c.givers_of-givers.result.case.now.dialog.now n)
      c.givers_of-givers.ensures.number (c.is_without_giver.ensures.0 c.if-is_without_giver.true)),
)

pub returns-then-is_never_given-clause-found : goal.returns-then-is_never_given-clause-found
returns-then-is_never_given-clause-found c = (
  search rules,
  subst (λ (case : Case). IsNeverGiven case.desc.now case.dialog.now case.masks.now c.args.command.0) c.givers_of-givers.ensures.case
      (subst (λ (n : ℕ). IsNeverGiven c.givers_of-givers.result.case.now.desc.now c.givers_of-givers.result.case.now.dialog.now
      c.givers_of-givers.result.case.now.masks.now n) c.givers_of-givers.ensures.number (c.is_never_given.ensures.0 c.if-is_never_given.true)),
  λ none.
      let givers = c.givers_of-givers.result in
      let yes : c.is_without_giver.result ≡ true
      = c.is_without_giver.ensures.1
      (subst (λ (n : ℕ). HasNoGiver givers.case.now.desc.now givers.case.now.dialog.now n) (sym c.givers_of-givers.ensures.number)
      (subst (λ (case : Case). HasNoGiver case.desc.now case.dialog.now c.args.command.0) (sym c.givers_of-givers.ensures.case) none)) in
      true≢false (sym yes ∙ c.if-is_without_giver.false),
)

pub returns-in-Some-clause-found : goal.returns-in-Some-clause-found
returns-in-Some-clause-found c =
    let case = c.args.case.now in (
      search rules,
      subst (λ (found : Option Id). IfSome found (λ i. Any (Blocks case.dialog.now case.masks.now i) (leaf_list case.dialog.now.views)))
          c.in-Some.is (c.in_ok-id.ensures {u = tt}).found,
      λ never.
          let givers = c.givers_of-givers.result in
          let yes : c.is_never_given.result ≡ true
          = c.is_never_given.ensures.1
          (subst (λ (n : ℕ). IsNeverGiven givers.case.now.desc.now givers.case.now.dialog.now givers.case.now.masks.now n) (sym c.givers_of-givers.ensures.number)
          (subst (λ (case : Case). IsNeverGiven case.desc.now case.dialog.now case.masks.now c.args.command.0) (sym c.givers_of-givers.ensures.case) never)) in
          true≢false (sym yes ∙ c.if-is_never_given.false),
    )

pub returns-in-None-clause-exact : goal.returns-in-None-clause-exact
returns-in-None-clause-exact c = λ opened.
    let case = c.args.case.now in
    let givers = c.givers_of-givers.result in
    ends_lack case.desc.now case.dialog.now case.masks.now opened c.args.command
    (λ none.
    let yes : c.is_without_giver.result ≡ true
    = c.is_without_giver.ensures.1
    (subst (λ (n : ℕ). HasNoGiver givers.case.now.desc.now givers.case.now.dialog.now n) (sym c.givers_of-givers.ensures.number)
    (subst (λ (case : Case). HasNoGiver case.desc.now case.dialog.now c.args.command.0) (sym c.givers_of-givers.ensures.case) none)) in
    true≢false (sym yes ∙ c.if-is_without_giver.false))
    (λ never.
    let yes : c.is_never_given.result ≡ true
    = c.is_never_given.ensures.1
    (subst (λ (n : ℕ). IsNeverGiven givers.case.now.desc.now givers.case.now.dialog.now givers.case.now.masks.now n) (sym c.givers_of-givers.ensures.number)
    (subst (λ (case : Case). IsNeverGiven case.desc.now case.dialog.now case.masks.now c.args.command.0) (sym c.givers_of-givers.ensures.case) never)) in
    true≢false (sym yes ∙ c.if-is_never_given.false))
    (subst (λ (found : Option Id). IfNone found (All (λ leaf. Blocks case.dialog.now case.masks.now leaf.node.id leaf → ⊥) (leaf_list case.dialog.now.views)))
    c.in-None.is (c.in_ok-id.ensures {u = tt}).exact)
