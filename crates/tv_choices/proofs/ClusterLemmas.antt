-- What keys are to clusters before and after the focus gets them.
use Rattle.std.proofs.Common.{◌≡◌, ◌∙◌, ◌⊎◌, ℕ, List, Option, ap, inl, inr, sym}
use Rattle.tv_event.specs.declared.event.Key.{Key}
use Rattle.tv_event.specs.declared.event.Phase.{Phase}
use Rattle.tv_event.specs.declared.event.Phase.TheVariants as phases
use Rattle.tv_view.specs.Meaning.{Leaf}
use Rattle.tv_model.specs.declared.kind.MarkedText.{MarkedText}
use Rattle.tv_view.specs.Effects.{leaf_keyed}
use Rattle.tv_view.specs.Reactions.{calling_letter, called_item, item_call, keyed_answer, letter_answer}
use Rattle.tv_view.specs.declared.env.Env.{Env}

module _ (leaf : Leaf) (k : Key) where
  -- they change nothing
  pub called-stays : (p : Phase) → (p ≡ phases.Pre) ⊎ (p ≡ phases.Post) → leaf_keyed k p leaf ≡ leaf
  called-stays p (inl before) = ap (λ phase. leaf_keyed k phase leaf) before
  called-stays p (inr after) = ap (λ phase. leaf_keyed k phase leaf) after

  -- a letter asks for the item that marks it
  pub called-answer : (items : List MarkedText) (env : Env)
      → ((letter : Option ℕ) → letter_answer env leaf leaf.node.kind letter ≡ item_call leaf (called_item items letter))
      → (p : Phase) → (p ≡ phases.Pre) ⊎ (p ≡ phases.Post) → keyed_answer env leaf k p ≡ item_call leaf (called_item items (calling_letter p k))
  called-answer items env asks p (inl before) =
      ap (λ phase. keyed_answer env leaf k phase) before
      ∙ (asks (calling_letter phases.Pre k) ∙ ap (λ phase. item_call leaf (called_item items (calling_letter phase k))) (sym before))
  called-answer items env asks p (inr after) =
      ap (λ phase. keyed_answer env leaf k phase) after
      ∙ (asks (calling_letter phases.Post k) ∙ ap (λ phase. item_call leaf (called_item items (calling_letter phase k))) (sym after))
