use Rattle.std.proofs.Common.{rules, ◌≡◌, ◌↔◌, ℕ, Bool, List, inl, inr, subst, arith}
use Rattle.std.specs.Prelude.{IsTrue}
use Rattle.std.proofs.lemmas.Bool.Decides.{nat_tests, same_from_decides}
use Rattle.std.proofs.lemmas.Grind.{common_steps}
use Rattle.std.proofs.lemmas.List.{nil_from_length}
use Rattle.tv_valid.specs.declared.domain.Domain.{Domain}
use Rattle.tv_valid.specs.Domain.{InDomain}
use Rattle.tv_valid.specs.Deciding.{in_domain}
use Rattle.tv_valid.proofs.DecidingLemmas.{in_domain_law}
use Rattle.tv_valid.proofs.Beginnings.{accepted_viable, viable_take}
use Rattle.tv_valid.proofs.domain.Domain.accepts.Goals as goal

pub returns-then-is_complete-clause-beginnings : goal.returns-then-is_complete-clause-beginnings
returns-then-is_complete-clause-beginnings c holds k =
    let d = c.args.self.now in
    viable_take d c.args.text.now k (accepted_viable d c.args.text.now (subst (InDomain d) c.as_slice-chars.ensures.value (c.fits.ensures.0 c.if-fits.true, inl (c.is_complete.ensures.0 holds))))

pub returns-then-self-clause-beginnings : goal.returns-then-self-clause-beginnings
returns-then-self-clause-beginnings c holds k =
    let d = c.args.self.now in
    viable_take d c.args.text.now k (accepted_viable d c.args.text.now (subst (InDomain d) c.as_slice-chars.ensures.value (c.fits.ensures.0 c.if-fits.true, inr (c.if-self.true, nil_from_length c.as_slice-chars.result.now (grind (arith, nat_tests))))))

-- what decides the relation is what the function gives
computed : (d : Domain) (text : List ℕ) (accepted : Bool) → IsTrue accepted ↔ InDomain d text → accepted ≡ in_domain d text
computed d text accepted decides = same_from_decides accepted (in_domain d text) decides (in_domain_law d text)

pub returns-then-is_complete-clause-computed : goal.returns-then-is_complete-clause-computed
returns-then-is_complete-clause-computed c = computed c.args.self.now c.args.text.now c.is_complete.result (search rules)

pub returns-then-self-clause-computed : goal.returns-then-self-clause-computed
returns-then-self-clause-computed c = computed c.args.self.now c.args.text.now c.is_empty.result (grind (arith, common_steps))

pub returns-else-self-clause-computed : goal.returns-else-self-clause-computed
returns-else-self-clause-computed c = computed c.args.self.now c.args.text.now c.args.self.now.optional (search rules)
