-- The owners of a letter that views share, one place after the other.
use Rattle.std.proofs.Common.{◌≡◌, ℕ, ◌+◌, ◌<◌, List, [], ◌∷◌, ◌++◌, map, drop, get_or, length, Option, refl, sym, ap, ◌∙◌, add-one, drop-cons, subst}
use Rattle.std.specs.Prelude.{ℤ, filter_map, slice_index_or}
use Rattle.std.specs.List.{cons_option}
use Rattle.std.proofs.lemmas.List.{get_or_read}
use Rattle.tv_model.specs.declared.node.Node.{Node}
use Rattle.tv_model.specs.declared.desc.Dialog.{Dialog}
use Rattle.tv_model.specs.Description.Owners.{KeyOwner, owner_shown}
use Rattle.tv_model.specs.Description.Sharing.{item_shown_by}
use Rattle.tv_names.specs.Sharing.{AreWithin, RuledViews, marker_at}
use Rattle.tv_check.specs.Owners.{owner_at_item, ruled}

rest_at : {A : Type 0} (xs : List A) (i : ℕ) (d : A) → i < length xs → drop i xs ≡ get_or xs i d ∷ drop (i + 1) xs
rest_at xs i d less = rw add-one (drop-cons xs i d less)

pub pushed : {A B : Type 0} (f : A → B) (xs : List A) (x : A) (rest : List B) → map f (xs ++ x ∷ []) ++ rest ≡ map f xs ++ (f x ∷ rest)
pushed f [] x rest = refl
pushed f (y ∷ ys) x rest = ap (λ more. f y ∷ more) (pushed f ys x rest)

module _ (dialog : Dialog) (letter : ℕ) (radios : Node) where
  -- what the views at these places give
  abbrev pub given_at : List ℕ → List KeyOwner
  given_at places = filter_map (owner_shown dialog letter radios) (map (marker_at dialog.views dialog.node) places)

  -- the view at a place gives its owner, and then those after it theirs
  pub next_given : (sharing : RuledViews) (views : List Node) (places : List ℕ) (i : ℕ) (node : Node) (item : Option ℤ) (got : Option KeyOwner) → sharing ≡ ruled dialog.views dialog.rules → views ≡ dialog.views
      → AreWithin sharing.views places → i < length places → node ≡ get_or views (get_or places i 0) node
      → ((view : Node) → item ≡ item_shown_by sharing.views sharing.rules radios (marker_at sharing.views view (get_or places i 0))) → got ≡ owner_at_item letter radios.kind item (get_or views (get_or places i 0) node).kind
      → given_at (drop i places) ≡ cons_option got (given_at (drop (i + 1) places))
  next_given sharing views places i node item got es ev within less is shown gives =
      let place = get_or places i 0 in
      let inside : place < length dialog.views = subst (λ (all : RuledViews). place < length all.views) es (within i 0 less) in
      let own : slice_index_or dialog.views place dialog.node ≡ node = sym (get_or_read dialog.views place node inside (subst (λ all. node ≡ get_or all place node) ev is) dialog.node) in
      let by : item ≡ item_shown_by dialog.views dialog.rules radios (marker_at dialog.views dialog.node place) =
      subst (λ (all : RuledViews). item ≡ item_shown_by all.views all.rules radios (marker_at all.views dialog.node place)) es (shown dialog.node) in
      let here : owner_shown dialog letter radios (marker_at dialog.views dialog.node place) ≡ got = sym (gives ∙ rw (by, ← is, ← own) refl) in
      ap given_at (rest_at places i 0 less) ∙ ap (λ owner. cons_option owner (given_at (drop (i + 1) places))) here
