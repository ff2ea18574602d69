-- What stands on the stack of the machine that runs a pattern's code.
use Rattle.std.specs.Prelude.{◌≡◌, ℕ, ◌+◌, ◌-◌, ◌≤◌, ◌⊎◌, ◌++◌, List, [], ◌∷◌, Option, Some, None, IfSome}
use Rattle.std.specs.Prelude.{slice_index_or}
use Rattle.std.specs.Prelude.{Bool, true, if◌then◌else◌, nat_lt}
use Rattle.std.specs.Option.{option_and_then}
use Rattle.tv_picture.specs.declared.code.Op.{Op}
use Rattle.tv_picture.specs.declared.code.Op.TheVariants.{Empty, One, Sequence, Either, Optional, Group}
use Rattle.tv_picture.specs.declared.code.Op.TheVariants.{Many, Times}
use Rattle.tv_picture.specs.declared.row.Row.{Row}
use Rattle.tv_picture.specs.declared.table.Table.{Table}
use Rattle.tv_picture.specs.Code.{height_after, pattern_of, run}
use Rattle.tv_picture.specs.Pattern.{Pattern, sequence}
use Rattle.tv_picture.specs.Table.{IsTableRow, HasEachRow}

-- below the height stands something for each pattern, the first pattern's on top
abbrev pub StandsBelow : {X : Type 0} → (Pattern → X → Type 0) → List X → ℕ → List Pattern → Type 0
StandsBelow R xs height [] = height ≡ 0
StandsBelow {X} R xs height (p ∷ ps) =
    (below : ℕ) × (height ≡ below + 1) × ((d : X) → R p (slice_index_or xs below d))
    × StandsBelow R xs below ps

-- the first pattern is what was made for the place, and the others stand below it
abbrev pub Made : {X : Type 0} → (Pattern → X → Type 0) → List X → ℕ → X → List Pattern → Type 0
Made R xs place x [] = ⊥
Made R xs place x (p ∷ ps) = R p x × StandsBelow R xs place ps

-- the stack stays within a height while the code runs
abbrev pub IsWithin : ℕ → ℕ → List Op → Type 0
IsWithin most h [] = h ≤ most
IsWithin most h (op ∷ ops) = (h ≤ most) × IfSome (height_after h op) (λ k. IsWithin most k ops)

-- the height after an operation and a `Sequence`
abbrev pub height_joined : ℕ → Op → Option ℕ
height_joined h op = option_and_then (λ k. height_after k Sequence) (height_after h op)

-- how many patterns stand above the lowest after an operation on these alone, where they have the parts
abbrev pub over_after : ℕ → Op → Option ℕ
over_after h Empty = Some (h + 1)
over_after h (One mark) = Some (h + 1)
over_after h Sequence = if nat_lt 1 h then Some (h - 1) else None
over_after h Either = if nat_lt 1 h then Some (h - 1) else None
over_after h Optional = if nat_lt 0 h then Some h else None
over_after h Group = if nat_lt 0 h then Some h else None
over_after h Many = if nat_lt 0 h then Some h else None
over_after h (Times n) = if nat_lt 0 h then Some h else None

-- an operation at this height leaves the lowest pattern as it is
abbrev pub leaves_lowest : ℕ → Op → Bool
leaves_lowest h Empty = nat_lt 0 h
leaves_lowest h (One mark) = nat_lt 0 h
leaves_lowest h Sequence = nat_lt 2 h
leaves_lowest h Either = nat_lt 2 h
leaves_lowest h Optional = nat_lt 1 h
leaves_lowest h Group = nat_lt 1 h
leaves_lowest h Many = true
leaves_lowest h (Times n) = true

-- the first row of the lowest pattern, and tables for those above it
abbrev pub StandsOver : List ℕ → Row → List Table → ℕ → List Pattern → Type 0
StandsOver text first tables height ps =
    (over : List Pattern) × (lowest : Pattern) × (above : ℕ) × (ps ≡ over ++ lowest ∷ [])
    × (height ≡ above + 1) × IsTableRow lowest text 0 first
    × StandsBelow (λ p t. HasEachRow p text t) tables above over

-- nothing stands on the stack, or these do
abbrev pub StandsOn : List ℕ → Row → List Table → ℕ → List Pattern → Type 0
StandsOn text first tables height ps = ((height ≡ 0) × (ps ≡ [])) ⊎ StandsOver text first tables height ps

-- the code puts one pattern on whatever stack
abbrev pub IsWhole : List Op → Type 0
IsWhole code = (ps : List Pattern) → run ps code ≡ pattern_of code ∷ ps

-- the row is of what has the first row and then the pattern of the code
pub record Reads (first : Row) (code : List Op) (text : List ℕ) (row : Row) : Type 0 where
  pub whole : IsWhole code
  pub after :
      (a : Pattern) → IsTableRow a text 0 first → IsTableRow (sequence a (pattern_of code)) text 0 row
