use Rattle.std.proofs.Common.{◌≡◌, ◌↔◌, ℕ, true, false, arith, subst, sym}
use Rattle.std.proofs.Math.Logic.{⊎_map}
use Rattle.tv_picture.specs.declared.places.Places.{Places}
use Rattle.tv_picture.specs.Table.{HasPlace}
use Rattle.tv_picture.proofs.Rows.{no_place}
use Rattle.tv_picture.proofs.Appended.{AfterBelow, stands_at, stands_not, after_none, after_more, after_skip, after_all}
use Rattle.tv_picture.proofs.places.Places.after.Goals as goal
use Rattle.tv_picture.proofs.places.Places.after.Goals.{then-allows, else-allows}

pub loop-place-init : goal.loop-place-init
loop-place-init c = (after_none c.args.self (record { bits = 0 }) c.args.mark c.args.text.now c.first_from-place.result no_place (λ p low. c.first_from-place.ensures.below p (omega arith) low), c.first_from-place.ensures.here)

pub loop-place-preserved : goal.loop-place-preserved
loop-place-preserved c =
    let place : ℕ = c.loop-place.place in
    let next : ℕ = c.first_from-place-in-loop-place.result in
    let has : HasPlace c.args.self place = c.loop-place.invariant.1 (omega arith) in (
      (
          elim c.if-allows.branch [
            | then-allows w ↦ subst (λ (a : Places). (k : ℕ) → HasPlace a k ↔ AfterBelow c.args.self c.args.mark c.args.text.now next k) (sym w.after-is)
                (after_more c.args.self c.loop-place.after w.union-after.result c.args.mark c.args.text.now place next (let o = c.first_from-place-in-loop-place.ensures.order in omega arith) c.first_from-place-in-loop-place.ensures.below has
                (stands_at c.args.mark c.args.text.now place c.index-text-place.result (omega arith) c.index-text-place.is (c.allows.ensures.0 w.if-allows.true))
                (λ k. ((λ h. ⊎_map (λ x. x) (λ o. (w.only.ensures k).0 o) ((w.union-after.ensures k).0 h)), (λ h. (w.union-after.ensures k).1 (⊎_map (λ x. x) (λ e. (w.only.ensures k).1 e) h))))
                c.loop-place.invariant.0)
            | else-allows w ↦ subst (λ (a : Places). (k : ℕ) → HasPlace a k ↔ AfterBelow c.args.self c.args.mark c.args.text.now next k) (sym w.after-is)
                (after_skip c.args.self c.loop-place.after c.args.mark c.args.text.now place next (let o = c.first_from-place-in-loop-place.ensures.order in omega arith) c.first_from-place-in-loop-place.ensures.below
                (stands_not c.args.mark c.args.text.now place c.index-text-place.result (omega arith) c.index-text-place.is (λ h. let yes : c.allows.result ≡ true = c.allows.ensures.1 h in let no : c.allows.result ≡ false = w.if-allows.false in cc))
                c.loop-place.invariant.0)
          ]
          ),
      c.first_from-place-in-loop-place.ensures.here,
    )

pub returns : goal.returns
returns c = after_all c.args.self c.loop-place.after c.args.mark c.args.text.now c.loop-place.place (omega arith) c.loop-place.invariant.0
