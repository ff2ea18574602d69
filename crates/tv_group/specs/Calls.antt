-- What the other calls of a group answer, and what its leaves become.
use Rattle.std.specs.Prelude.{ℕ, Bool, false, not, ◌&&◌, ◌||◌, List, [], ◌∷◌, map, find, reverse, length}
use Rattle.std.specs.Prelude.{nat_lt, is_some, Option, Some, None, option_map, ◌+◌, if◌then◌else◌, All}
use Rattle.std.specs.List.{list_any}
use Rattle.std.specs.Option.{option_or}
use Rattle.tv_model.specs.declared.node.Id.{Id}
use Rattle.tv_view.specs.Meaning.{Leaf, Placed, holds_mouse}
use Rattle.tv_model.specs.Description.Nodes.{is_control}
use Rattle.tv_model.specs.Log.Record.{Entries, value_of}
use Rattle.tv_machine.specs.Dialog.Focus.{validates}
use Rattle.tv_view.specs.declared.env.Rules.{Rules}
use Rattle.tv_view.specs.Calls.{Fits, HasRoom, applied, flag_if, focused_to, gathered, invalid_id}
use Rattle.tv_view.specs.Calls.{item_pressed, set_from, takes_focus}
use Rattle.tv_group.specs.declared.focus.Dir.{Dir}
use Rattle.tv_group.specs.declared.focus.Dir.TheVariants as dirs
use Rattle.tv_group.specs.declared.focus.Advanced.{Advanced}
use Rattle.tv_group.specs.declared.focus.Advanced.TheVariants.{Moved, Edge}
use Rattle.tv_group.specs.Handling.{is_awake}

-- ---- calls that change each leaf

-- a leaf changes in its place
abbrev pub in_place : (Leaf → Leaf) → Placed → Placed
in_place change x = record x { leaf = change x.leaf }

-- the same, and it isn't current
abbrev pub in_place_unmarked : (Leaf → Leaf) → Placed → Placed
in_place_unmarked change x = record x { leaf = change x.leaf; is_current = false }

-- an item is pressed
unfoldable pub all_pressed : Id → ℕ → List Placed → List Placed
all_pressed id item xs = map (in_place (item_pressed id item)) xs

-- rules are applied
unfoldable pub all_applied : Rules → List Placed → List Placed
all_applied rules xs = map (in_place (applied rules)) xs

-- the leaves open with the values of a record, and none has the focus
unfoldable pub all_set : Entries → List Placed → List Placed
all_set entries xs = map (in_place_unmarked (set_from entries)) xs

-- the record fits every leaf
abbrev pub FitsAll : Entries → List Placed → Type 0
FitsAll entries xs = All (λ x. Fits entries x.leaf) xs

-- ---- the focus

-- whether a control has the id
unfoldable pub has_control : Id → List Placed → Bool
has_control id xs = list_any (λ x. takes_focus id x.leaf) xs

-- the first control of the id becomes current, unless one was found before; every leaf is told
abbrev pub focused_from : Bool → Id → List Placed → List Placed
focused_from found id [] = []
focused_from found id (x ∷ xs) =
    record x { leaf = focused_to id x.leaf; is_current = not found && takes_focus id x.leaf }
    ∷ focused_from (found || takes_focus id x.leaf) id xs

-- the focus goes to the control of the id, and every other leaf loses it
unfoldable pub all_focused : Id → List Placed → List Placed
all_focused id xs = focused_from false id xs

-- ---- what is free to focus

-- a control that is shown and enabled
abbrev pub is_free_control : Leaf → Bool
is_free_control leaf = is_control leaf.node.kind && is_awake leaf

-- a free control has the id
unfoldable pub is_free_id : Id → List Placed → Bool
is_free_id id xs = list_any (λ x. takes_focus id x.leaf && is_free_control x.leaf) xs

-- the id of the first free one
abbrev pub first_free_leaf : List Placed → Option Id
first_free_leaf xs = option_map (λ x. x.leaf.node.id) (find (λ x. is_free_control x.leaf) xs)

-- the leaves behind the current one; none where no leaf is current
abbrev pub after_current : List Placed → List Placed
after_current [] = []
after_current (x ∷ xs) = if x.is_current then xs else after_current xs

-- the leaves in the order of a direction
abbrev pub ordered : Dir → List Placed → List Placed
ordered dirs.Forward xs = xs
ordered dirs.Backward xs = reverse xs

-- the first free control of a direction
unfoldable pub first_in : Dir → List Placed → Option Id
first_in dir xs = first_free_leaf (ordered dir xs)

-- the next free control in a direction from the current leaf, up to the edge
unfoldable pub next_in : Dir → List Placed → Option Id
next_in dir xs = first_free_leaf (after_current (ordered dir xs))

-- the leaves after the focus has gone where it was found to go, if anywhere
abbrev pub focused_at : Option Id → List Placed → List Placed
focused_at None xs = xs
focused_at (Some id) xs = all_focused id xs

-- what `advance` answers
abbrev pub advanced : Option Id → Advanced
advanced None = Edge
advanced (Some id) = Moved id

-- ---- searches

-- the first answer
abbrev pub first_some : {A B : Type 0} → (A → Option B) → List A → Option B
first_some ask [] = None
first_some ask (x ∷ xs) = option_or (ask x) (first_some ask xs)

-- whether a leaf holds the mouse
unfoldable pub any_holds : List Placed → Bool
any_holds xs = list_any (λ x. holds_mouse x.leaf) xs

-- whether a leaf has the focus
unfoldable pub any_focused : List Placed → Bool
any_focused xs = list_any (λ x. x.leaf.is_focused) xs

-- the first input whose text lies outside its domain
unfoldable pub first_invalid_in : List Placed → Option Id
first_invalid_in xs = first_some (λ x. invalid_id x.leaf) xs

-- the current leaf, where it is an input that the focus may not leave with its text
abbrev pub refusing : Placed → Option Id
refusing x = if x.is_current && validates x.leaf.node.kind then invalid_id x.leaf else None

-- the leaf that refuses to lose the focus
unfoldable pub refused_in : List Placed → Option Id
refused_in xs = first_some refusing xs

-- ---- values

-- the record with the values of all fields, one after the other
abbrev pub all_gathered : List Placed → Entries → Entries
all_gathered [] entries = entries
all_gathered (x ∷ xs) entries = all_gathered xs (gathered x.leaf entries)

-- the record has room for each of them
abbrev pub HasRoomForAll : List Placed → Entries → Type 0
HasRoomForAll [] entries = Unit {0}
HasRoomForAll (x ∷ xs) entries = HasRoom x.leaf entries × HasRoomForAll xs (gathered x.leaf entries)

-- whether the record has the field already, or fewer than 64 others
abbrev pub has_room : Leaf → Entries → Bool
has_room leaf entries = is_some (value_of entries leaf.node.id.0) || nat_lt (length entries) 64

-- the record with the values of the fields that it has room for
abbrev pub gathered_within : List Placed → Entries → Entries
gathered_within [] entries = entries
gathered_within (x ∷ xs) entries =
    gathered_within xs (if has_room x.leaf entries then gathered x.leaf entries else entries)

-- ---- flags

-- a group is always visible, and selected and focused where a leaf of it has the focus
abbrev pub group_state_bits : List Placed → ℕ
group_state_bits xs = 0x01 + flag_if (any_focused xs) 0x60

-- a group is selectable, and is asked before the current member and after it
abbrev pub group_option_bits : ℕ
group_option_bits = 0x31
