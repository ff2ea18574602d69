use Rattle.std.proofs.Common.{◌≡◌, true, false, arith, refl, sym, subst, get_or}
use Rattle.std.specs.Prelude.{All, Contains}
use Rattle.std.proofs.lemmas.List.{take_all}
use Rattle.std.proofs.lemmas.List.Elements.{All-more}
use Rattle.tv_valid.proofs.domain.is_over.Goals as goal

pub returns-then-not-is_in : goal.returns-then-not-is_in
returns-then-not-is_in c = (
  (λ e. let no : false ≡ true = e in cc),
  (λ all. let yes : c.is_in.result ≡ true = c.is_in.ensures.1 (subst (Contains c.as_slice.result.now) (sym c.ch-item.is) (subst (λ s. Contains s (get_or c.args.text.now c.loop-ch.ch-index c.ch-item.result)) (sym c.as_slice.ensures) (all c.loop-ch.ch-index c.ch-item.result (omega arith)))) in
      let no : c.is_in.result ≡ false = c.if-not-is_in.true in cc),
)

pub loop-ch-preserved : goal.loop-ch-preserved
loop-ch-preserved c =
    All-more (Contains c.args.set.now) c.args.text.now c.loop-ch.ch-index c.ch-item.result (omega arith) c.loop-ch.invariant
    (subst (Contains c.args.set.now) c.ch-item.is (subst (λ s. Contains s c.ch-item.result) c.as_slice.ensures (c.is_in.ensures.0 c.if-not-is_in.false)))

pub returns : goal.returns
returns c = ((λ e. subst (All (Contains c.args.set.now)) (take_all c.loop-ch.ch-index c.args.text.now (omega arith)) c.loop-ch.invariant), (λ all. refl))
