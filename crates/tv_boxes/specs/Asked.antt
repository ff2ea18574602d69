-- The description that the words of a command line ask for.
use Rattle.std.specs.Prelude.{◌≡◌, ℕ, List, Ok, Err, string_bytes}
use Rattle.tv_boxes.specs.declared.answering.Refusal.{Refusal}
use Rattle.tv_boxes.specs.declared.answering.Refusal.TheVariants.{NoMemory, Told}
use Rattle.tv_boxes.specs.declared.misuse.Misuse.{Misuse}
use Rattle.tv_boxes.specs.declared.request.Request.{Request}
use Rattle.tv_boxes.specs.Arguments.{request_in, words_in}
use Rattle.tv_boxes.specs.Boxes.{IsSoundBox, boxed_text}
use Rattle.tv_boxes.specs.Misuses.{misuse_text}

-- this is the text of the request's box, which is sound
abbrev pub IsTextOf : Request → List ℕ → Type 0
IsTextOf r text = (text ≡ boxed_text r) × IsSoundBox r

-- words, as lists of characters, spell a request, and this is the text of its box
abbrev pub Asks : List (List ℕ) → List ℕ → Type 0
Asks words text = (r : Request) × (request_in words ≡ Ok r) × IsTextOf r text

-- the same of the words' bytes
abbrev pub AsksFor : List (List ℕ) → List ℕ → Type 0
AsksFor words text = Asks (words_in words) text

-- words, as lists of characters, spell no request, and the message says why; or the box that they ask for isn't sound
pub data AreAmiss (words : List (List ℕ)) (message : List ℕ) : Type 0 where
  misused : (misuse : Misuse) → request_in words ≡ Err misuse → message ≡ misuse_text words misuse
      → AreAmiss words message
  unsound : (r : Request) → request_in words ≡ Ok r → ¬ IsSoundBox r → AreAmiss words message

-- the same of the words' bytes
abbrev pub AreAmissFor : List (List ℕ) → List ℕ → Type 0
AreAmissFor words message = AreAmiss (words_in words) message

-- memory ran out, or the request's box is not sound
abbrev pub DeniesBox : Request → Refusal → Type 0
DeniesBox r NoMemory = Unit {0}
DeniesBox r (Told message) = ¬ IsSoundBox r

-- memory ran out, or the words ask for no sound box
abbrev pub Denies : List (List ℕ) → Refusal → Type 0
Denies words NoMemory = Unit {0}
Denies words (Told message) = AreAmiss words (string_bytes message)

abbrev pub RefusesWords : List (List ℕ) → Refusal → Type 0
RefusesWords words refusal = Denies (words_in words) refusal
