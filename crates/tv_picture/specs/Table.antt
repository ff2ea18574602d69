-- What a table of places says of a pattern and a text.
use Rattle.std.specs.Prelude.{◌≡◌, ◌≢◌, ◌↔◌, ℕ, ◌+◌, ◌≤◌, ◌<◌, ◌⊎◌, ◌++◌, List, [], ◌∷◌, length, drop}
use Rattle.std.specs.Prelude.{if◌then◌else◌, ◌==◌, slice_index_or}
use Rattle.std.specs.Int.{IsBitSet}
use Rattle.tv_picture.specs.declared.code.Mark.{Mark}
use Rattle.tv_picture.specs.declared.places.Places.{Places}
use Rattle.tv_picture.specs.declared.row.Next.{Next}
use Rattle.tv_picture.specs.declared.row.Next.TheVariants.{Nothing, Only, Several}
use Rattle.tv_picture.specs.declared.row.Row.{Row}
use Rattle.tv_picture.specs.declared.table.Table.{Table}
use Rattle.tv_picture.specs.Pattern.{Pattern, Allows, IsMember, Begins}

-- the place is in the set
abbrev pub HasPlace : Places → ℕ → Type 0
HasPlace places k = IsBitSet places.bits k

-- how many characters have the property: none, the one, or more
abbrev pub NamesNext : (ℕ → Type 0) → Next → Type 0
NamesNext P Nothing = (c : ℕ) → P c → ⊥
NamesNext P (Only c) = P c × ((d : ℕ) → P d → d ≡ c)
NamesNext P Several = (c : ℕ) × (d : ℕ) × P c × P d × (c ≢ d)

-- the characters of either
abbrev pub either_next : Next → Next → Next
either_next Nothing b = b
either_next (Only c) Nothing = Only c
either_next (Only c) (Only d) = if c == d then Only c else Several
either_next (Only c) Several = Several
either_next Several b = Several

-- the mark stands for the text's character at the place
abbrev pub StandsAt : Mark → List ℕ → ℕ → Type 0
StandsAt mark text place = (c : ℕ) × (rest : List ℕ) × (drop place text ≡ c ∷ rest) × Allows mark c

-- a member stands from the place at which the rest begins to another
abbrev pub Spans : Pattern → List ℕ → ℕ → ℕ → Type 0
Spans a rest from to = (u : List ℕ) × (v : List ℕ) × IsMember a u × (rest ≡ u ++ v) × (to ≡ from + length u)

-- the character may follow the rest
abbrev pub MayFollow : Pattern → List ℕ → ℕ → Type 0
MayFollow a rest c = Begins a (rest ++ c ∷ [])

-- the row has the places to which members stand, and the characters that may follow the rest
pub record IsTableRow (a : Pattern) (rest : List ℕ) (from : ℕ) (row : Row) : Type 0 where
  pub ends : (to : ℕ) → HasPlace row.ends to ↔ Spans a rest from to
  pub next : NamesNext (MayFollow a rest) row.next

-- the row of a place outside the text
abbrev pub no_row : Row
no_row = record { ends = record { bits = 0 }; next = Nothing }

-- a place's row
abbrev pub row_at : Table → ℕ → Row
row_at table place = slice_index_or table.rows place no_row

-- the table has the row of each place of the text
pub record HasEachRow (a : Pattern) (text : List ℕ) (table : Table) : Type 0 where
  pub at : (from : ℕ) → from ≤ length text → IsTableRow a (drop from text) from (row_at table from)

-- from one of these places on, the character may follow the text
abbrev pub FollowsFrom : Places → Pattern → List ℕ → ℕ → ℕ → ℕ → Type 0
FollowsFrom places b text start stop c =
    (r : ℕ) × (start ≤ r) × (r < stop) × HasPlace places r × MayFollow b (drop r text) c

-- the row of one of these places has the end
abbrev pub AnyRow : Places → Table → ℕ → ℕ → ℕ → Type 0
AnyRow places table start stop k =
    (r : ℕ) × (start ≤ r) × (r < stop) × HasPlace places r × HasPlace (row_at table r).ends k

-- the result has what the first row has, and the rows of the table at these places
pub record Gathers (places : Places) (table : Table) (start stop : ℕ) (first result : Row) : Type 0 where
  pub ends : (k : ℕ) → HasPlace result.ends k ↔ (HasPlace first.ends k ⊎ AnyRow places table start stop k)
  pub next :
      (a b : Pattern) (text : List ℕ) (from : ℕ) →
      NamesNext (MayFollow a (drop from text)) first.next →
      ((r : ℕ) → start ≤ r → r < stop → HasPlace places r
      → NamesNext (MayFollow b (drop r text)) (row_at table r).next)
      →
      NamesNext (λ c. MayFollow a (drop from text) c ⊎ FollowsFrom places b text start stop c) result.next

-- the row has what the pattern's rows at these places have
pub record IsGathered (b : Pattern) (text : List ℕ) (places : Places) (table : Table) (row : Row)
    : Type 0 where
  pub ends : (k : ℕ) → HasPlace row.ends k ↔ AnyRow places table 0 (length text + 1) k
  pub next : NamesNext (FollowsFrom places b text 0 (length text + 1)) row.next
