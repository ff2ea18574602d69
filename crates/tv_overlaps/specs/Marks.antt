-- Which of some placed views collide with an earlier one.
use Rattle.std.specs.Prelude.{◌≡◌, ℕ, ◌<◌, ◌≤◌, ◌+◌, Bool, false, not, ◌&&◌, ◌||◌, ◌==◌, List, [], length}
use Rattle.std.specs.Prelude.{slice_index_or, nat_le, nat_lt, int_le, int_lt, ◌<ℤ◌, ◌+ℤ◌, ◌-◌, ◌^◌, pos}
use Rattle.std.specs.Prelude.{neg_ℤ}
use Rattle.std.specs.Int.{int_max, int_min}
use Rattle.std.specs.Int.RustNames.{int_div}
use Rattle.std.specs.List.{list_any}
use Rattle.tv_model.specs.Faults.Lines.{after_seen}
use Rattle.tv_overlaps.specs.declared.span.Span.{Span}
use Rattle.tv_overlaps.specs.declared.placed.Placed.{Placed}

-- all of the second lies in the first
abbrev pub span_covers : Span → Span → Bool
span_covers one other = int_le one.low other.low && int_le other.high one.high

-- the two share something, where neither is empty
abbrev pub meets : Span → Span → Bool
meets one other = int_lt one.low other.high && int_lt other.low one.high

-- the least that contains both
abbrev pub span_of_both : Span → Span → Span
span_of_both one other = record { low = int_min one.low other.low; high = int_max one.high other.high }

-- what contains nothing yet
abbrev pub nowhere : Span
nowhere = record { low = pos (2 ^ 127 - 1); high = neg_ℤ (pos (2 ^ 127)) }

-- the first is cut in two in its middle
pub record AreHalves (whole lower upper : Span) : Type 0 where
  pub middle : lower.high ≡ int_div (whole.low +ℤ whole.high) (pos 2)
  pub first : lower.low ≡ whole.low
  pub joined : upper.low ≡ lower.high
  pub last : upper.high ≡ whole.high
  pub after_first : whole.low <ℤ lower.high
  pub before_last : lower.high <ℤ whole.high

-- it has something in a half of the whole, and not all of the whole
abbrev pub enters : Span → Span → Span → Bool
enters whole half span = not (span_covers span whole) && meets half span

-- a point hasn't room for both
abbrev pub clash : Placed → Placed → Bool
clash one other = nat_lt 3 (one.weight + other.weight)

-- one of the two has all these rows
abbrev pub one_fills : Span → Placed → Placed → Bool
one_fills rows one other = span_covers one.rows rows || span_covers other.rows rows

-- one of the two has all these columns
abbrev pub one_is_wide : Span → Placed → Placed → Bool
one_is_wide columns one other = span_covers one.columns columns || span_covers other.columns columns

-- two that clash, of which one fills the rows and one the columns
abbrev pub collide_wide : Span → Span → Placed → Placed → Bool
collide_wide rows columns one other =
    one_fills rows one other && (one_is_wide columns one other && clash one other)

-- two that clash and share a column, of which one fills the rows
abbrev pub collide_filling : Span → Placed → Placed → Bool
collide_filling rows one other =
    one_fills rows one other && (meets one.columns other.columns && clash one other)

-- two that clash and share a point
abbrev pub collide : Placed → Placed → Bool
collide one other = meets one.rows other.rows && (meets one.columns other.columns && clash one other)

-- two of one owner that clash and share a point
abbrev pub collide_as_siblings : Placed → Placed → Bool
collide_as_siblings one other = (one.owner == other.owner) && collide one other

-- the owner's number is one of these
abbrev pub is_owned : ℕ → ℕ → Placed → Bool
is_owned first last item = nat_le first item.owner && nat_le item.owner last

-- after some that were seen, an item of this place stands so to one before it
abbrev pub is_related : (Placed → Placed → Bool) → ℕ → List Placed → List Placed → Bool
is_related relation place seen items =
    list_any (λ pair. (pair.1.place == place) && list_any (λ other. relation other pair.1) pair.0)
    (after_seen seen items)

-- the places are marked of the items that stand so to an earlier one, and no others
pub record AreMarked (relation : Placed → Placed → Bool) (items : List Placed)
    (old new : List Bool) : Type 0 where
  pub len : length new ≡ length old
  pub marks : (place : ℕ) → place < length old
      → slice_index_or new place false
      ≡ (slice_index_or old place false || is_related relation place [] items)

-- an item with points, of so many views
pub record IsPlacedItem (count : ℕ) (item : Placed) : Type 0 where
  pub place : item.place < count
  pub rows : item.rows.low <ℤ item.rows.high
  pub columns : item.columns.low <ℤ item.columns.high
  pub weight : item.weight ≤ 3
