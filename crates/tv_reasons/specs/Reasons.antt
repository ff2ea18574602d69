-- What is said of an input that refuses a text.
use Rattle.std.specs.Prelude.{◌≡◌, ℕ, Bool, List, [], ◌++◌, Option, Some, None, map, take, codes}
use Rattle.std.specs.Prelude.{if◌then◌else◌}
use Rattle.std.specs.Str.{IsUtf8, chars}
use Rattle.tv_cells.specs.Glyph.{is_narrow}
use Rattle.tv_valid.specs.declared.input.DomainSpec.{DomainSpec}
use Rattle.tv_valid.specs.declared.input.DomainSpec.TheVariants as domains
use Rattle.tv_model.specs.declared.kind.Kind.{Kind}
use Rattle.tv_model.specs.declared.kind.Kind.TheVariants as kinds
use Rattle.tv_model.specs.declared.node.Node.{Node}

-- the character where it takes one column, else `?`
abbrev pub printed : ℕ → ℕ
printed ch = if is_narrow ch then ch else 63

-- what a line has of a text: its first 132 characters
abbrev pub line_of : List ℕ → List ℕ
line_of text = take 132 (map printed text)

-- the text of these bytes was added to the line, as far as there was room
abbrev pub IsAdded : List ℕ → List ℕ → List ℕ → Type 0
IsAdded line bytes longer = IsUtf8 bytes × (longer ≡ take 132 (line ++ map printed (chars bytes)))

-- what stands behind the name of the input
abbrev pub between : Bool → List ℕ
between is_hidden = codes (if is_hidden then " is hidden, and has to be " else ": ")

-- the words that say first what an input of the domain takes
abbrev pub first_words : DomainSpec → List ℕ
first_words domains.Any = codes "at most "
first_words (domains.Filter set) = codes "at most "
first_words (domains.Range least greatest) = codes "a number from "
first_words (domains.Picture picture) = codes "as "

-- the line begins with the input's name, whether it is hidden and the first words of what it takes, and has further
-- words behind those; it is empty where there is no input
abbrev pub IsReasonOf : Kind → Bool → List ℕ → Type 0
IsReasonOf (kinds.Input input) is_hidden line =
    (words : List ℕ)
    × (line ≡ line_of (input.name ++ between is_hidden ++ first_words input.spec.domain ++ words))
IsReasonOf _ is_hidden line = line ≡ []

abbrev pub IsReason : Option Node → Bool → List ℕ → Type 0
IsReason None is_hidden line = line ≡ []
IsReason (Some node) is_hidden line = IsReasonOf node.kind is_hidden line
