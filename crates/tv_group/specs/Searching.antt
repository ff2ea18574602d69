-- What a search through leaves comes to.
use Rattle.std.specs.Prelude.{ℕ, Bool, true, false, List, [], ◌∷◌, ◌-◌, Option, Some, None, if◌then◌else◌}
use Rattle.tv_model.specs.declared.node.Id.{Id}
use Rattle.tv_view.specs.Meaning.{Placed}
use Rattle.tv_group.specs.Calls.{is_free_control}
use Rattle.tv_group.specs.declared.focus.Dir.{Dir}
use Rattle.tv_group.specs.declared.focus.Dir.TheVariants as dirs
use Rattle.tv_group.specs.declared.search.Search.{Search}
use Rattle.tv_group.specs.declared.search.Search.TheVariants.{Before, Passed, Found}

-- how a search goes on to a leaf
abbrev pub searched_on : Search → Placed → Search
searched_on Before x = if x.is_current then Passed else Before
searched_on Passed x = if is_free_control x.leaf then Found x.leaf.node.id else Passed
searched_on (Found id) x = Found id

-- and through leaves
abbrev pub searched : Search → List Placed → Search
searched s [] = s
searched s (x ∷ xs) = searched (searched_on s x) xs

-- what was found
abbrev pub found_in : Search → Option Id
found_in Before = None
found_in Passed = None
found_in (Found id) = Some id

-- whether a search has to go through a member: up to the current leaf only the current one, and none behind a
-- find
abbrev pub looks_at : Search → Bool → Bool
looks_at Before is_current = is_current
looks_at Passed is_current = true
looks_at (Found id) is_current = false

-- the k-th of so many places in a direction
abbrev pub kth_place : Dir → ℕ → ℕ → ℕ
kth_place dirs.Forward k count = k
kth_place dirs.Backward k count = count - 1 - k
