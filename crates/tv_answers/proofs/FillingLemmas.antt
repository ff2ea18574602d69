-- The dialogs that are filled so far, and the others.
use Rattle.std.proofs.Common.{◌≡◌, List, [], ◌∷◌, ◌++◌, length, refl, sym, ap, ◌∙◌, append_assoc, arith}
use Rattle.std.proofs.lemmas.List.{append-nil}
use Rattle.tv_model.specs.declared.desc.Dialog.{Dialog}
use Rattle.tv_answers.specs.declared.answers.Answer.{Answer}
use Rattle.tv_answers.specs.Filling.{filled_dialogs, with_values_of}

unanswered : (dialogs : List Dialog) → filled_dialogs dialogs [] ≡ dialogs
unanswered [] = refl
unanswered (dialog ∷ dialogs) = refl

module _ (begun more dialogs others whole : List Dialog) (dialog : Dialog) (next : dialogs ≡ dialog ∷ others) where
  along : (rest : List Answer) → begun ++ filled_dialogs dialogs rest ≡ whole → begun ++ filled_dialogs (dialog ∷ others) rest ≡ whole
  along rest so = sym (ap (λ ds. begun ++ filled_dialogs ds rest) next) ∙ so

  -- a dialog without an answer
  pub more_unanswered : (rest : List Answer) → length rest ≡ 0 → more ≡ begun ++ dialog ∷ [] → begun ++ filled_dialogs dialogs rest ≡ whole → more ++ filled_dialogs others rest ≡ whole
  more_unanswered [] none pushed so =
      ap (λ ds. ds ++ filled_dialogs others []) pushed
      ∙ ap (λ ds. (begun ++ dialog ∷ []) ++ ds) (unanswered others)
      ∙ append_assoc begun (dialog ∷ []) others ∙ along [] so
  more_unanswered (answer ∷ rest) none pushed so = absurd (omega (arith, none))

  -- a dialog with one
  pub more_answered : (rest later : List Answer) (answer : Answer) (given : Dialog) → rest ≡ answer ∷ later → given ≡ with_values_of answer.entries dialog → more ≡ begun ++ given ∷ [] → begun ++ filled_dialogs dialogs rest ≡ whole → more ++ filled_dialogs others later ≡ whole
  more_answered rest later answer given first filled pushed so =
      ap (λ ds. ds ++ filled_dialogs others later) (pushed ∙ ap (λ d. begun ++ d ∷ []) filled)
      ∙ append_assoc begun (with_values_of answer.entries dialog ∷ []) (filled_dialogs others later)
      ∙ sym (ap (λ answers. begun ++ filled_dialogs (dialog ∷ others) answers) first) ∙ along rest so

-- all dialogs
pub all_filled : (begun dialogs whole : List Dialog) (rest : List Answer) → dialogs ≡ [] → begun ++ filled_dialogs dialogs rest ≡ whole → begun ≡ whole
all_filled begun dialogs whole rest none so =
    sym (append-nil begun) ∙ sym (ap (λ ds. begun ++ filled_dialogs ds rest) none) ∙ so
