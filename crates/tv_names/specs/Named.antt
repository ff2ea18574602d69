-- Names that views give, kept by the name.
use Rattle.std.specs.Prelude.{◌≡◌, ℕ, ◌<◌, List, [], length, take, find, slice_index_or, Option, Some}
use Rattle.std.specs.Prelude.{option_map, bytes_eq}
use Rattle.std.specs.List.{list_any}
use Rattle.std.specs.Borrow.{Bor}
use Rattle.std.specs.HashMap.{HashMap, get_by}
use Rattle.std.specs.HashSet.{HashSet, contains_by}
use Rattle.tv_model.specs.declared.node.Node.{Node}
use Rattle.tv_model.specs.Faults.Lines.{after_seen}
use Rattle.tv_model.specs.Description.Names.{gives_name}

-- the set has the names that the nodes give
abbrev pub AreNamesOf : {S : Type 0} → List Node → HashSet (Bor (List ℕ)) S → Type 0
AreNamesOf nodes names =
    (name : List ℕ) → contains_by (λ key. bytes_eq name key.now) names ≡ list_any (gives_name name) nodes

-- the first view that gives the name, with those before it
abbrev pub first_given : List Node → List ℕ → Option (List Node × Node)
first_given views name = find (λ pair. gives_name name pair.1) (after_seen [] views)

-- the place that the map has for the name
abbrev pub place_in : {S : Type 0} → HashMap (Bor (List ℕ)) ℕ S → List ℕ → Option ℕ
place_in places name = get_by (λ key. bytes_eq name key.now) places

-- the map has the place of the first view that gives the name, for each name that is given
abbrev pub ArePlacesOf : {S : Type 0} → List Node → HashMap (Bor (List ℕ)) ℕ S → Type 0
ArePlacesOf views places =
    (name : List ℕ) → place_in places name ≡ option_map (λ pair. length pair.0) (first_given views name)

-- the first view that gives the name stands at this place
abbrev pub IsFirstAt : List Node → List ℕ → ℕ → Type 0
IsFirstAt views name i =
    (i < length views)
    × ((other : Node) → first_given views name ≡ Some (take i views, slice_index_or views i other))
