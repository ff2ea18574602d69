-- Letters by one test as by another that says the same.
use Rattle.std.proofs.Common.{◌≡◌, ℕ, Bool, false, Option, None, Some, List, [], ◌∷◌, ◌++◌, refl, ap, ◌∙◌, cond, not, ◌&&◌}
use Rattle.std.specs.Option.{option_map_or}
use Rattle.tv_model.specs.declared.node.Node.{Node}
use Rattle.tv_model.specs.declared.kind.MarkedText.{MarkedText}
use Rattle.tv_model.specs.Description.Letters.{marked_of}
use Rattle.tv_model.specs.Description.Marks.{marked_letter, marks_any}
use Rattle.tv_explain.specs.Letters.{first_marking, is_given, letter_from, letter_line}

module _ (p q : ℕ → Bool) (same : (letter : ℕ) → p letter ≡ q letter) where
  option_same : (o : Option ℕ) → option_map_or p o false ≡ option_map_or q o false
  option_same None = refl
  option_same (Some letter) = same letter

  from_same : (before : List Node) (own : ℕ) (earlier texts : List MarkedText) → letter_from p before own earlier texts ≡ letter_from q before own earlier texts
  from_same before own earlier [] = refl
  from_same before own earlier (text ∷ texts) =
      ap (λ b. cond (is_given before earlier text && not b) (Some (first_marking before own text)) (letter_from p before own (earlier ++ text ∷ []) texts)) (option_same (marked_letter text))
      ∙ ap (cond (is_given before earlier text && not (marks_any q text)) (Some (first_marking before own text))) (from_same before own (earlier ++ text ∷ []) texts)

  pub line_same : (before : List Node) (node : Node) → letter_line p before node ≡ letter_line q before node
  line_same before node = from_same before node.id.0 [] (marked_of node.kind)
