-- Words are amiss where the box that they ask for is refused.
use Rattle.std.proofs.Common.{◌≡◌, ℕ, List, Result, Ok, Err, IfErr}
use Rattle.tv_boxes.specs.declared.answering.Refusal.{Refusal}
use Rattle.tv_boxes.specs.declared.answering.Refusal.TheVariants.{NoMemory, Told}
use Rattle.tv_boxes.specs.declared.request.Request.{Request}
use Rattle.tv_boxes.specs.Arguments.{request_in}
use Rattle.tv_boxes.specs.Asked.{Denies, DeniesBox}
use Rattle.tv_boxes.specs.Asked.AreAmiss.{unsound}

denies : (words : List (List ℕ)) (r : Request) (refusal : Refusal) → request_in words ≡ Ok r → DeniesBox r refusal → Denies words refusal
denies words r NoMemory asked why = tt
denies words r (Told message) asked why = unsound r asked why

pub denied : {T : Type 0} (words : List (List ℕ)) (r : Request) (answer : Result T Refusal) → request_in words ≡ Ok r → IfErr answer (DeniesBox r) → IfErr answer (Denies words)
denied words r (Ok text) asked why = tt
denied words r (Err refusal) asked why = denies words r refusal asked why
