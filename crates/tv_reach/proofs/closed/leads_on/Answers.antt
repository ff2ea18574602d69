use Rattle.std.proofs.Common.{◌≡◌, true, refl, sym, ◌∙◌}
use Rattle.std.proofs.lemmas.Bool.{true≢false}
use Rattle.tv_reach.specs.Shown.{IsMoved, IsPart}
use Rattle.tv_reach.proofs.MaskLemmas.{any-weaker}
use Rattle.tv_reach.proofs.ClosedLemmas.{moved_part, part_moved}
use Rattle.tv_reach.proofs.closed.leads_on.Goals as goal

pub returns-then-contains_all : goal.returns-then-contains_all
returns-then-contains_all c =
    let part = IsPart c.union.result in
    let moved = IsMoved c.args.own c.args.choice c.args.mask in
    let masks = c.args.masks.now in (
      (λ e shown.
          any-weaker part moved (part_moved c.args.own c.args.choice c.args.mask c.without.result c.union.result c.without.ensures c.union.ensures) masks
          (c.any_contains.ensures.0 e)),
      (λ leads.
          c.any_contains.ensures.1
          (any-weaker moved part (moved_part c.args.own c.args.choice c.args.mask c.without.result c.union.result c.without.ensures c.union.ensures) masks
          (leads (c.contains_all.ensures.0 c.if-contains_all.true)))),
    )

pub returns-else-contains_all : goal.returns-else-contains_all
returns-else-contains_all c = (
  (λ e part. let yes : c.contains_all.result ≡ true = c.contains_all.ensures.1 part in absurd (true≢false (sym yes ∙ c.if-contains_all.false))),
  (λ leads. refl),
)
