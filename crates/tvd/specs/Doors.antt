-- What lies at a handle, and what a call makes of it.
use Rattle.std.specs.Prelude.{◌≡◌, ℕ, List, Option, None, Some}
use Rattle.tv_held.specs.Asking.{IsTold, asked_of}
use Rattle.tv_held.specs.Holding.{Begins, Holding, IsHeld, answer_number, bare}
use Rattle.tv_held.specs.contracts.held.Held.{the_row}
use Rattle.tv_held.specs.declared.answer.Answer.TheVariants.{Refused}
use Rattle.tv_held.specs.declared.answer.Told.{Told}
use Rattle.tv_held.specs.declared.asked.Asked.{Asked}
use Rattle.tv_held.specs.declared.held.Held.{Held}
use base.Fml.{Fml, ftrue, fsep, fex}
use base.Fraction.{full_share}
use denote.RawPtr.{Ptr, lies_at}

-- ---- calls

-- a number that asks for nothing changes nothing
abbrev pub IsToldBy : Option Asked → (input : List ℕ) → (h later : Holding) → (old new : List ℕ) → Told → Type 0
IsToldBy None input h later old new told = (told ≡ bare Refused) × (later ≡ h) × (new ≡ old)
IsToldBy (Some asked) input h later old new told = IsTold asked input h later old new told

-- what the number asks for is done, and answered by number
pub record Does (asked : ℕ) (input : List ℕ) (h later : Holding) (old new : List ℕ) (used answer : ℕ) : Type 0 where
  pub told : Told
  pub is : IsToldBy (asked_of asked) input h later old new told
  pub count : used ≡ told.used
  pub answers : answer ≡ answer_number told.answer

-- ---- handles

-- at the pointer lies what stands for this
abbrev pub HeldAt : Ptr → Holding → Fml
HeldAt p h = fex Held (λ held. fsep (fex (IsHeld held h) (λ _. ftrue)) (lies_at the_row full_share p held))

-- what a text begins
abbrev pub OpenedAt : Ptr → List ℕ → Fml
OpenedAt p text = fex Holding (λ h. fsep (fex (Begins text h) (λ _. ftrue)) (HeldAt p h))

-- what a call leaves
abbrev pub HeldAfter : Ptr → Holding → ℕ → (input old new : List ℕ) → (used answer : ℕ) → Fml
HeldAfter p h asked input old new used answer =
    fex Holding (λ later. fsep (fex (Does asked input h later old new used answer) (λ _. ftrue)) (HeldAt p later))
