-- Which of the views handed in is the first that doesn't stand as the description declares it.
use Rattle.std.specs.Prelude.{◌≡◌, ◌⊎◌, ℕ, ◌+◌, List, [], ◌∷◌, length, Option, Some, None}
use Rattle.tv_view.specs.Meaning.{Leaf}
use Rattle.tv_model.specs.declared.desc.Desc.{Desc}
use Rattle.tv_model.specs.declared.desc.Dialog.{Dialog}
use Rattle.tv_model.specs.declared.desc.Window.{Window}
use Rattle.tv_group.specs.Outline.{IsFreshBody}
use Rattle.tv_group.specs.declared.group.GroupOf.{GroupOf}
use Rattle.tv_window.specs.Window.{IsFreshWindow}
use Rattle.tv_window.specs.declared.window.WindowOf.{WindowOf}

-- the window stands as it is declared
abbrev pub IsFreshFor : {V : Type 0} → (V → Leaf) → Window → WindowOf V → Type 0
IsFreshFor look declared window = IsFreshWindow look declared.node declared.views window

-- the body stands as its dialog declares it
abbrev pub IsFreshBodyFor : {V : Type 0} → (V → Leaf) → Dialog → GroupOf V → Type 0
IsFreshBodyFor look declared body = IsFreshBody look declared.node declared.views body

-- the first place, counted on from this one, at which what was handed in isn't fresh for what is declared, is
-- missing or is one
-- too many; none where there is one for each, and all are fresh
abbrev pub IsFirstStale : {D X : Type 0} → (D → X → Type 0) → ℕ → List D → List X → Option ℕ → Type 0
IsFirstStale Fresh place [] [] first = first ≡ None
IsFirstStale Fresh place [] (view ∷ views) first = first ≡ Some place
IsFirstStale Fresh place (declared ∷ others) [] first = first ≡ Some place
IsFirstStale Fresh place (declared ∷ others) (view ∷ views) first =
    (Fresh declared view × IsFirstStale Fresh (place + 1) others views first)
    ⊎ ((Fresh declared view → ⊥) × (first ≡ Some place))

-- the first view that isn't as declared, counted from 1, windows before bodies
abbrev pub IsFirstMismatch : {V : Type 0} → (V → Leaf) → Desc → List (WindowOf V) → List (GroupOf V)
    → Option ℕ → Type 0
IsFirstMismatch look d windows bodies first =
    ((place : ℕ) × IsFirstStale (IsFreshFor look) 1 d.windows windows (Some place) × (first ≡ Some place))
    ⊎
    (IsFirstStale (IsFreshFor look) 1 d.windows windows None
    × IsFirstStale (IsFreshBodyFor look) (length d.windows + 1) d.dialogs bodies first)
