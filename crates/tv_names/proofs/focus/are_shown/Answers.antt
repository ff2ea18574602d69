use Rattle.std.proofs.Common.{◌≡◌, ◌<◌, ◌++◌, ◌∷◌, [], ◌||◌, None, get_or, length, rules, subst, sym, ap, ◌∙◌}
use Rattle.std.proofs.lemmas.List.{get_or_read, length_push}
use Rattle.tv_model.specs.declared.node.Node.{Node}
use Rattle.std.specs.HashSet.{contains}
use Rattle.std.specs.List.{list_any}
use Rattle.tv_names.specs.Focus.{AreFirstShown, is_owner_shown, is_same_id, reach_shows}
use Rattle.tv_overlaps.specs.Standing.{IsOwningPane}
use Rattle.tv_names.proofs.ReachSetLemmas.{shown_push}
use Rattle.tv_names.proofs.focus.are_shown.Goals as goal

pub loop-place-preserved : goal.loop-place-preserved
loop-place-preserved c =
    let place = c.loop-place.place in
    let views = c.args.views.now in
    let owner = get_or c.in_ok-owners.owners.items place None in
    let pushed : c.push.new.self.items ≡ c.loop-place.shown.items ++ c.is_shown.result ∷ [] = search rules in
    let within : place < length views = search rules in
    let owns : IsOwningPane views place owner = c.in_ok-owners.ensures.1 place (search rules) in
    let here : c.is_shown.result ≡ (contains is_same_id c.in_ok-targets.targets c.index-views-place.result.id || is_owner_shown c.loop-place.shown.items owner) = search rules in
    let now : (d : Node) → c.is_shown.result ≡ (list_any (reach_shows (get_or views place d).id) c.args.reaches.now || is_owner_shown c.loop-place.shown.items owner) = λ d.
    here ∙ ap (λ b. b || is_owner_shown c.loop-place.shown.items owner)
    (c.in_ok-targets.ensures c.index-views-place.result.id ∙ ap (λ view. list_any (reach_shows view.id) c.args.reaches.now) (get_or_read views place c.index-views-place.result within c.index-views-place.is d)) in (
      search (rules, length_push),
      subst (λ shown. AreFirstShown c.args.reaches.now views shown) (sym pushed)
          (shown_push c.args.reaches.now views c.loop-place.shown.items place owner c.is_shown.result c.loop-place.invariant.0 within c.loop-place.invariant.1 owns now),
    )
