-- What a call comes to, by what it asks for.
use Rattle.std.specs.Prelude.{◌≡◌, ◌==◌, ℕ, List, [], ◌∷◌, Option, None, Some, if◌then◌else◌}
use Rattle.tv_held.specs.Acting.{CommandActs, Follows, LineActs, PauseActs, TakingActs}
use Rattle.tv_held.specs.Holding.{Holding, Running, Unopened, bare, status_of, unopened}
use Rattle.tv_held.specs.Looking.{LooksBy}
use Rattle.tv_held.specs.declared.answer.Answer.TheVariants as answers
use Rattle.tv_held.specs.declared.answer.Told.{Told}
use Rattle.tv_held.specs.declared.asked.Asked.{Asked}
use Rattle.tv_held.specs.declared.asked.Asked.TheVariants as asks
use Rattle.tv_held.specs.declared.asked.Look.{Look}
use Rattle.tv_held.specs.declared.asked.Look.TheVariants as looks

-- ---- numbers

abbrev pub asked_of : ℕ → Option Asked
asked_of number =
    if number == 0 then Some asks.Status
    else if number == 1 then Some asks.Bytes
    else if number == 2 then Some asks.Pause
    else if number == 3 then Some asks.Line
    else if number == 4 then Some asks.Command
    else if number == 5 then Some (asks.Text looks.Log)
    else if number == 6 then Some (asks.Text looks.Screen)
    else if number == 7 then Some (asks.Text looks.Shape)
    else if number == 8 then Some (asks.Text looks.Focus)
    else if number == 9 then Some (asks.Text looks.Record)
    else None

-- ---- looks

-- a look changes nothing that stands at the handle
abbrev pub Looks : Look → (name : List ℕ) → (h : Holding) → (old new : List ℕ) → Told → Type 0
Looks look name (Running s l) old new told = LooksBy told.answer look s name old new told.used
Looks look name (Unopened fault) old new told = (told ≡ bare (unopened fault)) × (new ≡ old)

-- ---- calls

-- the command of the number that is the one byte of the input is given
abbrev pub CommandsIn : (input : List ℕ) → (h later : Holding) → Told → Type 0
CommandsIn (number ∷ []) h later told = Follows (CommandActs (record { 0 = number })) h later told
CommandsIn input h later told = (later ≡ h) × (told ≡ bare answers.Refused)

abbrev pub IsTold : Asked → (input : List ℕ) → (h later : Holding) → (old new : List ℕ) → Told → Type 0
IsTold asks.Status input h later old new told = (told ≡ bare (status_of h)) × (later ≡ h) × (new ≡ old)
IsTold asks.Bytes input h later old new told = Follows (TakingActs input) h later told × (new ≡ old)
IsTold asks.Pause input h later old new told = Follows PauseActs h later told × (new ≡ old)
IsTold asks.Line input h later old new told = Follows (LineActs input) h later told × (new ≡ old)
IsTold asks.Command input h later old new told = CommandsIn input h later told × (new ≡ old)
IsTold (asks.Text look) input h later old new told = Looks look input h old new told × (later ≡ h)
