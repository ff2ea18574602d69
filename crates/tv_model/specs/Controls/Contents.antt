-- What a leaf holds.
use Rattle.std.specs.Prelude.{[], ℕ, Bool, ◌&&◌, List, Option, Some, ℤ, pos, ◌-◌, nat_le, slice_index_or}
use Rattle.tv_model.specs.declared.record.Value.{Value}
use Rattle.tv_model.specs.declared.record.Value.TheVariants as values
use Rattle.tv_model.specs.Controls.Private.{Private}
use Rattle.tv_model.specs.Description.Numbers.{IsBetween}

-- what a leaf holds: its value, what it keeps beside it, and whether typing overwrites, which is of use to an
-- input alone
pub record Content : Type 0 where
  pub value : Option Value
  pub private : Private
  pub overwrites : Bool

-- the text of a value; no other value has one
abbrev pub text_of : Option Value → List ℕ
text_of (Some (values.Text text)) = text
text_of _ = []

-- the item that a value marks or chooses; the first for other values
abbrev pub item_of : Option Value → ℕ
item_of (Some (values.Item item)) = item
item_of _ = 1

-- a text of a list or an item of a cluster, from 1, or no text past the last one
abbrev pub text_at : List (List ℕ) → ℕ → List ℕ
text_at items item = slice_index_or items (item - 1) []

-- ---- items, which count from 1

-- an item that there is
abbrev pub is_item_place : ℕ → ℕ → Bool
is_item_place count item = nat_le 1 item && nat_le item count

-- there is an item of the number, counted from 1
abbrev pub IsItem : ℤ → ℕ → Type 0
IsItem n count = IsBetween (pos 1) (pos count) n
