use Rattle.std.proofs.Common.{◌≡◌, ◌↔◌, ◌+◌, ◌⊎◌, ℕ, true, false, arith, sym, subst}
use Rattle.std.proofs.Math.Logic.{⊎_map}
use Rattle.tv_picture.specs.declared.places.Places.{Places}
use Rattle.tv_picture.specs.Table.{HasPlace}
use Rattle.tv_picture.proofs.Appended.{stands_at, stands_not}
use Rattle.tv_picture.proofs.Spread.{IsSpread, IsSmooth, spread_none, spread_more, spread_skip, spread_all}
use Rattle.tv_picture.proofs.places.Places.spread.Goals as goal
use Rattle.tv_picture.proofs.places.Places.spread.Goals.{then-allows, else-allows}

pub loop-place-init : goal.loop-place-init
loop-place-init c = (
  spread_none c.args.self c.args.mark c.args.text.now c.first_from-place.result (λ r above low edge. c.first_from-place.ensures.below r above low ((c.edges.ensures r).1 edge)),
  λ low. ((c.edges.ensures c.first_from-place.result).0 (c.first_from-place.ensures.here low)).0,
)

pub loop-place-preserved : goal.loop-place-preserved
loop-place-preserved c =
    let place : ℕ = c.loop-place.place in
    let next : ℕ = c.first_from-place-in-loop-place.result in
    let has : HasPlace c.loop-place.places place = c.loop-place.invariant.1 (omega arith) in
    let free : IsSmooth c.if-allows.places (place + 1) next = λ r above low edge. c.first_from-place-in-loop-place.ensures.below r above low ((c.edges-in-loop-place.ensures r).1 edge) in (
      (
          elim c.if-allows.branch [
            | then-allows w ↦ spread_more c.args.self c.loop-place.places c.if-allows.places c.args.mark c.args.text.now place next has
                (stands_at c.args.mark c.args.text.now place c.index-text-place.result (omega arith) c.index-text-place.is (c.allows.ensures.0 w.if-allows.true))
                (subst (λ (a : Places). (k : ℕ) → HasPlace a k ↔ (HasPlace c.loop-place.places k ⊎ (k ≡ place + 1))) (sym w.places-is)
                (λ k. ((λ h. ⊎_map (λ x. x) (λ o. (w.only.ensures k).0 o) ((w.union-places.ensures k).0 h)), (λ h. (w.union-places.ensures k).1 (⊎_map (λ x. x) (λ e. (w.only.ensures k).1 e) h)))))
                free c.loop-place.invariant.0
            | else-allows w ↦ spread_skip c.args.self c.if-allows.places c.args.mark c.args.text.now place next
                (stands_not c.args.mark c.args.text.now place c.index-text-place.result (omega arith) c.index-text-place.is (λ h. let yes : c.allows.result ≡ true = c.allows.ensures.1 h in let no : c.allows.result ≡ false = w.if-allows.false in cc))
                free
                (subst (λ (a : Places). IsSpread c.args.self c.args.mark c.args.text.now place a) (sym w.places-is) c.loop-place.invariant.0)
          ]
          ),
      λ low. ((c.edges-in-loop-place.ensures next).0 (c.first_from-place-in-loop-place.ensures.here low)).0,
    )

pub returns : goal.returns
returns c = spread_all c.args.self c.loop-place.places c.args.mark c.args.text.now c.loop-place.place (omega arith) c.loop-place.invariant.0
