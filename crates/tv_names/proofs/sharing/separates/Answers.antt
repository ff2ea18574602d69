use Rattle.std.proofs.Common.{◌≡◌, ◌+◌, ◌<◌, ◌∷◌, length, take, drop, rules, true, sym, ap, ◌∙◌, arith}
use Rattle.std.proofs.lemmas.List.{get_or_default}
use Rattle.std.specs.HashSet as set
use Rattle.std.specs.Ordering.{int_eq}
use Rattle.std.specs.Prelude.{slice_index, slice_index_or}
use Rattle.tv_names.specs.Focus.{standing}
use Rattle.tv_names.specs.Sharing.{are_apart_from, first_item, items_at, lent_group}
use Rattle.tv_names.proofs.SharingLemmas.{apart_at_first, apart_next, rest_at}
use Rattle.tv_names.proofs.sharing.separates.Goals as goal

pub loop-place-init : goal.loop-place-init
loop-place-init c = λ view. apart_at_first (set.contains int_eq c.new-items.result) (λ item. search rules) (items_at c.args.views.now (lent_group c.args.group.now) view c.args.places.now)

pub loop-place-preserved : goal.loop-place-preserved
loop-place-preserved c = λ view.
    let views = c.args.views.now in
    let group = c.args.group.now in
    let places = c.args.places.now in
    let i = c.loop-place.place-index in
    let place = slice_index places i in
    let less : i < length places = omega arith in
    let had = set.contains int_eq c.loop-place.items in
    let later = items_at views (lent_group group) view (drop (i + 1) places) in
    let around : c.as_slice-ids.result.now ≡ standing (take place views) (slice_index_or views place view) = c.as_slice-ids.ensures.value ∙ c.in_ok-around.ensures view in
    let here : first_item group.rules.items (standing (take place views) (slice_index_or views place view)) ≡ c.first_item-item.result =
    sym (c.first_item-item.ensures ∙ ap (λ list. first_item list c.as_slice-ids.result.now) c.as_slice-rules.ensures.value ∙ ap (first_item group.rules.items) around) in
    let fresh : c.in_ok-is_other.field-0 ≡ true = search rules in
    c.loop-place.invariant view
    ∙ ap (λ left. are_apart_from had (items_at views (lent_group group) view left)) (rest_at places i place less (get_or_default places i 0 place less))
    ∙ ap (λ item. are_apart_from had (item ∷ later)) here
    ∙ apart_next had (set.contains int_eq c.is_other.new.items) c.first_item-item.result later (sym c.in_ok-is_other.ensures.other ∙ fresh) c.in_ok-is_other.ensures.added
