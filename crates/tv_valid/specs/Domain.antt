-- What an input asks of its text.
use Rattle.std.specs.Prelude.{◌≡◌, ℕ, ◌+◌, ◌-◌, ◌*◌, ◌^◌, ◌≤◌, ◌<◌, ◌⊎◌, ◌++◌, List, [], ◌∷◌, length, take}
use Rattle.std.specs.Prelude.{insert, slice_index_or, All, Contains, Bool, true, if◌then◌else◌, nat_le, ◌&&◌}
use Rattle.std.specs.Prelude.{◌==◌, IsTrue, ℤ, pos, neg_ℤ, ◌≤ℤ◌, ◌<ℤ◌}
use Rattle.tv_cells.specs.Glyph.{IsNarrow}
use Rattle.tv_picture.specs.Pattern.{Pattern, IsMember, Begins, IsNextLiteral, IsDigit}
use Rattle.tv_picture.specs.Spelling.{IsPicture, spelled, IsFirstFaultyPlace}
use Rattle.tv_picture.specs.declared.fault.PictureFault.{PictureFault}
use Rattle.tv_picture.specs.declared.fault.PictureFault.TheVariants as pictures
use Rattle.tv_valid.specs.declared.input.InputSpec.{InputSpec}
use Rattle.tv_valid.specs.declared.input.DomainSpec.{DomainSpec}
use Rattle.tv_valid.specs.declared.input.DomainSpec.TheVariants as asked
use Rattle.tv_valid.specs.declared.domain.Kind.{Kind}
use Rattle.tv_valid.specs.declared.domain.Kind.TheVariants.{Any, Filter, Range, Picture}
use Rattle.tv_valid.specs.declared.domain.Domain.{Domain}
use Rattle.tv_valid.specs.declared.domain.DomainFault.{DomainFault}
use Rattle.tv_valid.specs.declared.domain.DomainFault.TheVariants.{NoMemory, BadPicture, Empty}

-- the digits as a whole number, of any length
abbrev pub number_of_digits : List ℕ → ℕ
number_of_digits [] = 0
number_of_digits (c ∷ cs) = (c - 48) * 10 ^ length cs + number_of_digits cs

-- one or more digits
abbrev pub IsDigits : List ℕ → Type 0
IsDigits cs = (1 ≤ length cs) × All IsDigit cs

-- the number lies between the two, either of them included
abbrev pub IsFromTo : ℤ → ℤ → ℤ → Type 0
IsFromTo least z greatest = (least ≤ℤ z) × (z ≤ℤ greatest)

-- an optional sign and digits whose value is in the range; a `-` only where the least value is negative
abbrev pub InRange : ℤ → ℤ → List ℕ → Type 0
InRange least greatest text =
    (cs : List ℕ) × IsDigits cs
    × ((((text ≡ cs) ⊎ (text ≡ 43 ∷ cs)) × IsFromTo least (pos (number_of_digits cs)) greatest)
    ⊎ ((text ≡ 45 ∷ cs) × (least <ℤ pos 0) × IsFromTo least (neg_ℤ (pos (number_of_digits cs))) greatest))

-- a character of such a text
abbrev pub IsRangeChar : ℤ → ℕ → Type 0
IsRangeChar least c = (c ≡ 43) ⊎ (IsDigit c ⊎ ((c ≡ 45) × (least <ℤ pos 0)))

-- what the kind of the domain asks of a whole text
abbrev pub InKind : Kind → List ℕ → Type 0
InKind Any text = Unit {0}
InKind (Filter set) text = All (Contains set) text
InKind (Range least greatest) text = InRange least greatest text
InKind (Picture p) text = IsMember p text

-- and of a text while it is typed
abbrev pub MayBecome : Kind → List ℕ → Type 0
MayBecome Any text = Unit {0}
MayBecome (Filter set) text = All (Contains set) text
MayBecome (Range least greatest) text = All (IsRangeChar least) text
MayBecome (Picture p) text = Begins p text

-- at most so many characters, and never more than 120, each of one column
abbrev pub FitsIn : ℤ → List ℕ → Type 0
FitsIn max text = (pos (length text) ≤ℤ max) × (length text ≤ 120) × All IsNarrow text

-- the text has room in the input
abbrev pub HasRoomIn : Domain → List ℕ → Type 0
HasRoomIn d text = FitsIn d.max text

-- a text of the domain
abbrev pub InDomain : Domain → List ℕ → Type 0
InDomain d text = HasRoomIn d text × (InKind d.kind text ⊎ (IsTrue d.optional × (text ≡ [])))

-- a text that may stand in the input while it is typed
abbrev pub IsViableText : Domain → List ℕ → Type 0
IsViableText d text = HasRoomIn d text × MayBecome d.kind text

-- the kind is what the description asks for; a picture is the one that is spelled
abbrev pub IsKind : DomainSpec → Kind → Type 0
IsKind asked.Any Any = Unit {0}
IsKind (asked.Filter cs) (Filter set) = set ≡ cs
IsKind (asked.Range a b) (Range least greatest) = (least ≡ a) × (greatest ≡ b)
IsKind (asked.Picture text) (Picture p) = IsPicture p × (spelled p ≡ text)
IsKind _ _ = ⊥

-- the domain that the description asks for
pub record IsDomain (spec : InputSpec) (d : Domain) : Type 0 where
  pub max : d.max ≡ spec.max
  pub optional : d.optional ≡ spec.optional
  pub fill : d.fill ≡ spec.fill
  pub kind : IsKind spec.domain d.kind

-- some text lies in the domain
abbrev pub HasText : Domain → Type 0
HasText d = (text : List ℕ) × InDomain d text

-- a number of the range is written by so many narrow characters
abbrev pub HasNumber : ℤ → ℤ → ℕ → Type 0
HasNumber least greatest room =
    (text : List ℕ) × InRange least greatest text × (length text ≤ room) × All IsNarrow text

-- the picture's fault as the domain's
abbrev pub picture_fault : PictureFault → DomainFault
picture_fault pictures.NoMemory = NoMemory
picture_fault (pictures.Syntax place) = BadPicture place

-- why there is no kind: no memory, or a wrong picture
abbrev pub RefusesKind : DomainSpec → DomainFault → Type 0
RefusesKind spec NoMemory = Unit {0}
RefusesKind spec (BadPicture place) =
    (text : List ℕ) × (spec ≡ asked.Picture text) × IsFirstFaultyPlace text place
RefusesKind spec Empty = ⊥

-- why there is no domain: its picture is wrong, or it is right and no text lies in the domain
abbrev pub RefusesDomain : InputSpec → DomainFault → Type 0
RefusesDomain spec NoMemory = Unit {0}
RefusesDomain spec (BadPicture place) =
    (text : List ℕ) × (spec.domain ≡ asked.Picture text) × IsFirstFaultyPlace text place
RefusesDomain spec Empty = ((d : Domain) × IsDomain spec d) × ((d : Domain) → IsDomain spec d → HasText d → ⊥)

-- ---- typing

-- a picture is written in characters of one column
abbrev pub IsNarrowKind : Kind → Type 0
IsNarrowKind (Picture p) = All IsNarrow (spelled p)
IsNarrowKind _ = Unit {0}

-- an ASCII letter in its other case, and any other character itself
abbrev pub other_case : ℕ → ℕ
other_case c =
    if nat_le 65 c && nat_le c 90 then c + 32 else (if nat_le 97 c && nat_le c 122 then c - 32 else c)

-- the domain is a picture
abbrev pub IsPictureKind : Kind → Type 0
IsPictureKind (Picture p) = Unit {0}
IsPictureKind _ = ⊥

-- the character that is typed: as it is, or for a picture in its other case where that alone is viable
abbrev pub IsChosen : Domain → List ℕ → ℕ → ℕ → ℕ → Type 0
IsChosen d text at ch c =
    IsViableText d (insert text at c)
    × ((c ≡ ch) ⊎ (IsPictureKind d.kind × (c ≡ other_case ch) × ¬ (IsViableText d (insert text at ch))))

-- the text with the literals that must follow it, as far as there is room
pub record IsFilledTo (max : ℤ) (p : Pattern) (text out : List ℕ) : Type 0 where
  pub more : List ℕ
  pub grown : out ≡ text ++ more
  pub literals : (k : ℕ) (c : ℕ) → k < length more
      → IsNextLiteral p (text ++ take k more) (slice_index_or more k c) × (pos (length text + k) <ℤ max)
  pub full : (c : ℕ) → pos (length out) <ℤ max → IsNextLiteral p out c → ⊥

-- with `fill`, what is typed at the end of a picture's text is filled up
abbrev pub IsCompleted : Domain → Kind → Bool → List ℕ → List ℕ → Type 0
IsCompleted d (Picture p) true text out = IsFilledTo d.max p text out
IsCompleted d _ _ text out = out ≡ text

-- the text after a character was typed
abbrev pub IsTyped : Domain → List ℕ → ℕ → ℕ → List ℕ → Type 0
IsTyped d text at ch out =
    (c : ℕ) × IsChosen d text at ch c
    × IsCompleted d d.kind (d.fill && (at == length text)) (insert text at c) out
