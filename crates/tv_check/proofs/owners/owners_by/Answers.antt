use Rattle.std.proofs.Common.{◌≡◌, ◌+◌, [], ◌∷◌, ◌++◌, map, drop, option_map, rules, sym, ap, ◌∙◌}
use Rattle.std.specs.List.{cons_option}
use Rattle.tv_check.specs.Lent.{lent_key_owner}
use Rattle.tv_check.proofs.SharedOwnerLemmas.{given_at, next_given, pushed}
use Rattle.tv_check.proofs.owners.owners_by.Goals.{in-Some+in_ok-push, in_default}
use Rattle.tv_check.proofs.owners.owners_by.Goals as goal

pub loop-place-preserved : goal.loop-place-preserved
loop-place-preserved c =
    let dialog = c.args.dialog.now in
    let radios = c.args.radios.now in
    let places = c.as_slice-place-items.result.now in
    let i = c.loop-place.place-index in
    let rest = given_at dialog c.args.letter radios (drop (i + 1) places) in
    let next : given_at dialog c.args.letter radios (drop i places) ≡ cons_option (option_map lent_key_owner c.owner_at_item.result) rest =
    next_given dialog c.args.letter radios c.args.sharing.now c.as_slice-views.result.now places i c.index-views-place.result c.item-item.result (option_map lent_key_owner c.owner_at_item.result)
    c.requires c.as_slice-views.ensures (rw c.as_slice-place-items.ensures.value c.in_ok-places.ensures.within) c.loop-place-test.true c.index-views-place.is c.item-item.ensures c.owner_at_item.ensures in
    let owners = c.loop-place.owners.items in
    let now = c.match-owner_at_item.owners.items in
    elim c.match-owner_at_item.branch [
      | in-Some+in_ok-push w ↦
          let owner = w.in-Some.owner in
          let grown : now ≡ owners ++ owner ∷ [] = search rules in
          let more : given_at dialog c.args.letter radios (drop i places) ≡ lent_key_owner owner ∷ rest = rw w.in-Some.is at next in
          ap (λ items. map lent_key_owner items ++ rest) grown ∙ pushed lent_key_owner owners owner rest ∙ ap (λ given. map lent_key_owner owners ++ given) (sym more) ∙ c.loop-place.invariant
      | in_default w ↦
          let same : now ≡ owners = search rules in
          let passed : given_at dialog c.args.letter radios (drop i places) ≡ rest = rw w.in_default.is at next in
          ap (λ items. map lent_key_owner items ++ rest) same ∙ ap (λ given. map lent_key_owner owners ++ given) (sym passed) ∙ c.loop-place.invariant
    ]
