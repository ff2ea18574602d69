-- What a line does, by the answers of the functions that read it.
use Rattle.std.proofs.Common.{◌≡◌, ℕ, ◌+◌, ◌==◌, true, false, List, [], ◌∷◌, length, Option, Some, None, refl, sym, ap, ◌∙◌, arith}
use Rattle.std.specs.Prelude.{IfSome, option_and_then}
use Rattle.std.proofs.lemmas.Bool.{eqb-true}
use Rattle.tv_words.specs.declared.word.Word.{Word}
use Rattle.tv_lang.specs.declared.progress.Progress.{Progress}
use Rattle.tv_words.specs.Words.{SpellsWords}
use Rattle.tv_lang.specs.declared.stage.Stage.{Stage}
use Rattle.tv_model.specs.declared.desc.Desc.{Desc}
use Rattle.std.specs.Option.{option_map}
use Rattle.tv_lang.specs.Reading.Stages.{is_other_version, progress, position, declaration_taken, description_line_taken}
use Rattle.tv_declarations.specs.Reading.Declarations.{declaration_in}
use Rattle.tv_lang.specs.Reading.Descriptions.{Next, Faulty, OfOtherVersion, step_from, step_if, words_step, line_step}
use Rattle.tv_words.proofs.LineWordLemmas.{found_words}

module _ (p : Progress) (line : List ℕ) (found : Option (List Word)) (spelled : IfSome found (λ ws. SpellsWords line ws)) (only : (ws : List Word) → SpellsWords line ws → found ≡ Some ws) where
  by_words : words_step p found ≡ line_step p line
  by_words = ap (words_step p) (found_words line found spelled only)

  pub faulty_line : found ≡ None → line_step p line ≡ Faulty
  faulty_line e = sym by_words ∙ ap (words_step p) e

  no_words : (ws : List Word) → true ≡ (length ws == 0) → words_step p (Some ws) ≡ Next p
  no_words [] e = refl
  no_words (w ∷ ws) e = absurd (omega (arith, eqb-true (length (w ∷ ws)) 0 (sym e)))

  pub line_without_words : (ws : List Word) → found ≡ Some ws → true ≡ (length ws == 0) → line_step p line ≡ Next p
  line_without_words ws e none = sym by_words ∙ ap (words_step p) e ∙ no_words ws none

  with_words : (ws : List Word) → false ≡ (length ws == 0) → words_step p (Some ws) ≡ step_if (is_other_version p ws) (description_line_taken p ws)
  with_words [] e = absurd cc
  with_words (w ∷ ws) e = refl

  declared_line : (ws : List Word) → found ≡ Some ws → false ≡ (length ws == 0) → line_step p line ≡ step_if (is_other_version p ws) (description_line_taken p ws)
  declared_line ws e some = sym by_words ∙ ap (words_step p) e ∙ with_words ws some

  pub line_of_other_version : (ws : List Word) → found ≡ Some ws → false ≡ (length ws == 0) → true ≡ is_other_version p ws → line_step p line ≡ OfOtherVersion
  line_of_other_version ws e some other = declared_line ws e some ∙ ap (λ b. step_if b (description_line_taken p ws)) (sym other)

  pub declaration : (ws : List Word) (further : Option Progress) → found ≡ Some ws → false ≡ (length ws == 0) → false ≡ is_other_version p ws → further ≡ description_line_taken p ws → line_step p line ≡ step_from further
  declaration ws further e some same took = declared_line ws e some ∙ ap (λ b. step_if b (description_line_taken p ws)) (sym same) ∙ ap step_from (sym took)

next_of : (line : ℕ) (o : Option (Stage × Desc)) (q : Progress) → option_map (progress line) o ≡ Some q → q.next ≡ line
next_of line None q e = absurd cc
next_of line (Some t) q e = let same : progress line t ≡ q = cc in ap (λ x. x.next) (sym same)

-- the next declaration stands on the next line
pub next_taken : (p : Progress) (ws : List Word) (q : Progress) → description_line_taken p ws ≡ Some q → q.next ≡ p.next + 1
next_taken p ws q e = next_of (p.next + 1) (option_and_then (declaration_taken p.stage p.desc) (declaration_in (position p) ws)) q e
