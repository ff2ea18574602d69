-- Texts that spell a value, whose declarations are lists of words.
use Rattle.std.specs.Prelude.{◌≡◌, ℕ, ◌+◌, ◌<◌, ◌≤◌, List, [], ◌∷◌, ◌++◌, length, take}
use Rattle.tv_words.specs.declared.word.Word.{Word}
use Rattle.tv_words.specs.Words.{SpellsWords}

-- each line spells the words beside it
abbrev pub EachSpells : List (List ℕ) → List (List Word) → Type 0
EachSpells [] [] = Unit {0}
EachSpells (line ∷ lines) (ws ∷ wss) = SpellsWords line ws × EachSpells lines wss
EachSpells _ _ = ⊥

-- the words of the lines that have any
abbrev pub declarations : List (List Word) → List (List Word)
declarations [] = []
declarations ([] ∷ wss) = declarations wss
declarations ((w ∷ ws) ∷ wss) = (w ∷ ws) ∷ declarations wss

-- the lines spell the value, one that can be spelled, by the words of its declarations
pub record SpellsBy {V : Type 0} (spelling : V → List (List Word)) (CanBeSpelled : V → Type 0)
    (lines : List (List ℕ)) (v : V) : Type 0 where
  pub words : List (List Word)
  pub each : EachSpells lines words
  pub declared : declarations words ≡ spelling v
  pub can : CanBeSpelled v

-- some lines after these make a text that spells a value
abbrev pub BeginsBy : {V : Type 0} → (V → List (List Word)) → (V → Type 0) → List (List ℕ) → Type 0
BeginsBy {V} spelling CanBeSpelled lines =
    (more : List (List ℕ)) × (v : V) × SpellsBy spelling CanBeSpelled (lines ++ more) v

-- the first faulty line: those before it begin a text of the grammar, and with it they don't; a line that is
-- missing counts as one
pub record IsFirstFaultyLine {V : Type 0} (spelling : V → List (List Word)) (CanBeSpelled : V → Type 0)
    (lines : List (List ℕ)) (line : ℕ) : Type 0 where
  pub before : ℕ
  pub number : line ≡ before + 1
  pub within : before ≤ length lines
  pub begins : BeginsBy spelling CanBeSpelled (take before lines)
  pub stops : before < length lines → BeginsBy spelling CanBeSpelled (take line lines) → ⊥
  pub missing : before ≡ length lines → (v : V) → SpellsBy spelling CanBeSpelled lines v → ⊥
