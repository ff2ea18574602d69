use Rattle.std.proofs.Common.{◌≡◌, ◌++◌, ◌∷◌, [], rules, subst, sym}
use Rattle.std.proofs.lemmas.List.{length_push}
use Rattle.tv_overlaps.specs.Standing.{IsFirstSibling}
use Rattle.tv_overlaps.proofs.SiblingLemmas.{AreFirstNumbers, all_first, all_numbered, numbers_more}
use Rattle.tv_overlaps.proofs.owner.siblings.Goals as goal

pub loop-place-preserved : goal.loop-place-preserved
loop-place-preserved c =
    let pushed : c.push.new.self.items ≡ c.loop-place.firsts.items ++ c.first_sibling.result ∷ [] = search rules in
    let first : IsFirstSibling c.loop-place.firsts.items c.args.views.now c.loop-place.place c.first_sibling.result =
    subst (λ numbers. IsFirstSibling numbers c.args.views.now c.loop-place.place c.first_sibling.result) c.deref-in-loop-place.ensures.value c.first_sibling.ensures in
    (search (rules, length_push), subst (λ numbers. AreFirstNumbers numbers c.args.views.now) (sym pushed) (numbers_more _ _ _ _ c.loop-place.invariant.0 c.loop-place.invariant.1 first))

pub returns-clause-first : goal.returns-clause-first
returns-clause-first c = all_first c.loop-place.firsts.items c.args.views.now (search rules) c.loop-place.invariant.1

pub returns-clause-siblings : goal.returns-clause-siblings
returns-clause-siblings c = all_numbered c.loop-place.firsts.items c.args.views.now (search rules) c.loop-place.invariant.1
