-- What a shortcut letter acts on.
use Rattle.std.specs.Prelude.{ℕ, ◌+◌, List, Option, Some, None, ℤ, pos}

-- a control by its name, with its item, from 1, where an own item of a cluster marks the letter
pub record LetterOwner : Type 0 where
  pub name : List ℕ
  pub item : Option ℤ

-- a control by itself
abbrev pub control : List ℕ → LetterOwner
control name = record { name = name; item = None }

-- the item at a place, counted from 0
abbrev pub item_at : List ℕ → ℕ → LetterOwner
item_at name place = record { name = name; item = Some (pos (place + 1)) }
