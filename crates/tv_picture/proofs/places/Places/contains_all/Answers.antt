use Rattle.std.proofs.Common.{inl, inr, arith}
use Rattle.tv_picture.proofs.BitLemmas.{set_or_not}
use Rattle.tv_picture.proofs.places.Places.contains_all.Goals as goal

pub returns : goal.returns
returns c = (
  λ e k has. elim (set_or_not c.args.self.bits k) [
    | inl h ↦ h
    | inr n ↦ absurd (c.is_below.ensures.0 e k (omega arith) ((c.without.ensures k).1 (has, n)))
  ],
  λ all. c.is_below.ensures.1 (λ k above left. let parts = (c.without.ensures k).0 left in parts.1 (all k parts.0)),
)
