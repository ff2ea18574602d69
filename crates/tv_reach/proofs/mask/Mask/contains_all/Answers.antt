use Rattle.std.proofs.Common.{inl, inr}
use Rattle.std.proofs.lemmas.Bool.{eqb-true, eq-eqb}
use Rattle.tv_picture.proofs.BitLemmas.{set_or_not}
use Rattle.tv_reach.proofs.BitLemmas.{no_bits, none_set}
use Rattle.tv_reach.proofs.mask.Mask.contains_all.Goals as goal

pub returns : goal.returns
returns c = (
  λ e k has. elim (set_or_not c.args.self.bits k) [
    | inl h ↦ h
    | inr n ↦ absurd (none_set c.without.result.bits (eqb-true c.without.result.bits 0 e) k ((c.without.ensures k).1 (has, n)))
  ],
  λ all. eq-eqb c.without.result.bits 0
      (no_bits c.without.result.bits (λ k left. let parts = (c.without.ensures k).0 left in parts.1 (all k parts.0))),
)
