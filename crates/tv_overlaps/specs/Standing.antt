-- How views stand to the views before them: in which pane, and after which siblings.
use Rattle.std.specs.Prelude.{◌≡◌, ℕ, suc, ◌<◌, ◌≤◌, List, length, map, filter, reverse, take, zip}
use Rattle.std.specs.Prelude.{slice_index, slice_index_or, Option, Some, None, ◌==◌, if◌then◌else◌}
use Rattle.tv_model.specs.declared.node.Node.{Node}
use Rattle.tv_model.specs.Description.Panes.{earlier_siblings}

-- ---- owners

-- how many panes are around the view at this place
abbrev pub depth_at : List Node → ℕ → ℕ
depth_at views place = slice_index (map (λ view. view.depth) views) place

-- the last place before this one whose view is less deep than so; none where no view there is
abbrev pub IsLastAbove : List Node → ℕ → ℕ → Option ℕ → Type 0
IsLastAbove views depth place None = (k : ℕ) → k < place → depth ≤ depth_at views k
IsLastAbove views depth place (Some last) =
    (last < place) × (depth_at views last < depth)
    × ((k : ℕ) → last < k → k < place → depth ≤ depth_at views k)

-- the place of the pane in which the view at this place stands
abbrev pub IsOwningPane : List Node → ℕ → Option ℕ → Type 0
IsOwningPane views place owner = IsLastAbove views (depth_at views place) place owner

-- the owners of the first views
abbrev pub AreFirstOwners : List (Option ℕ) → List Node → Type 0
AreFirstOwners owners views =
    (i : ℕ) → i < length owners → IsOwningPane views i (slice_index_or owners i None)

-- the owners of all views
abbrev pub AreOwners : List (Option ℕ) → List Node → Type 0
AreOwners owners views = (length owners ≡ length views) × AreFirstOwners owners views

-- ---- siblings

-- the number of a view, where this is the last one before it that isn't deeper
abbrev pub number_after : List ℕ → List Node → ℕ → Option ℕ → ℕ
number_after numbers views place None = place
number_after numbers views place (Some last) =
    if depth_at views last == depth_at views place then slice_index numbers last else place

-- the place of the first sibling of the view at this place
abbrev pub IsFirstSibling : List ℕ → List Node → ℕ → ℕ → Type 0
IsFirstSibling numbers views place number =
    (last : Option ℕ) × IsLastAbove views (suc (depth_at views place)) place last
    × (number ≡ number_after numbers views place last)

-- the views of a number, in their order
abbrev pub numbered : ℕ → List (ℕ × Node) → List Node
numbered number pairs = map (λ pair. pair.1) (filter (λ pair. pair.0 == number) pairs)

-- the earlier siblings of a view are those of its number before it
abbrev pub AreSiblingsNumbered : List ℕ → List Node → Type 0
AreSiblingsNumbered numbers views =
    (length numbers ≡ length views)
    × ((i : ℕ) (view : Node) → i < length views
    → reverse (earlier_siblings (take i views) (slice_index_or views i view))
    ≡ numbered (slice_index numbers i) (take i (zip numbers views)))

-- a number is the place of the first view that has it
abbrev pub AreFirstPlaces : List ℕ → Type 0
AreFirstPlaces numbers =
    (i : ℕ) → i < length numbers
    → (slice_index numbers i ≤ i) × (slice_index numbers (slice_index numbers i) ≡ slice_index numbers i)
