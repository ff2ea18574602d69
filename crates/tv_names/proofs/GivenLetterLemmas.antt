-- Letters that were marked before.
use Rattle.std.proofs.Common.{◌≡◌, ℕ, Bool, false, not, ◌&&◌, ◌||◌, List, [], refl, sym, ap, ◌∙◌}
use Rattle.std.specs.List.{list_any}
use Rattle.std.specs.Option.{option_map_or}
use Rattle.std.specs.Prelude.{Option, Some, None}
use Rattle.tv_model.specs.Description.Marks.{marked_letter, marks, marks_any, shares_letter}
use Rattle.tv_model.specs.Description.Letters.{marked_of}
use Rattle.tv_model.specs.Faults.Letters.{marks_again}
use Rattle.tv_model.specs.Faults.Lines.{after_seen}
use Rattle.tv_model.specs.declared.kind.MarkedText.{MarkedText}
use Rattle.tv_model.specs.declared.node.Node.{Node}
use Rattle.tv_names.specs.Marked.{is_marked_by, is_marked_in, mark_again}
use Rattle.tv_model.proofs.TestLemmas.{any_none, any_same}

module _ (text : MarkedText) (test : ℕ → Bool) where
  unmarked : marked_letter text ≡ None → marks_any test text ≡ false
  unmarked none = rw none refl

  marked : (letter : ℕ) → marked_letter text ≡ Some letter → marks_any test text ≡ test letter
  marked letter some = rw some refl

-- tests that agree
marks_same : (f g : ℕ → Bool) → ((letter : ℕ) → f letter ≡ g letter) → (text : MarkedText) → marks_any f text ≡ marks_any g text
marks_same f g same text = at (marked_letter text)
  where
    at : (o : Option ℕ) → option_map_or f o false ≡ option_map_or g o false
    at None = refl
    at (Some letter) = same letter

module _ (text : MarkedText) where
  unshared : marked_letter text ≡ None → (other : MarkedText) → shares_letter text other ≡ false
  unshared none other = rw none refl

  shared : (letter : ℕ) → marked_letter text ≡ Some letter → (other : MarkedText) → marks letter other ≡ shares_letter text other
  shared letter some other = rw some refl

-- what is asked of each item, with a letter that the text marks
module _ {A : Type 0} (text : MarkedText) (asks : ℕ → A → Bool) (shares : A → Bool)
    (none_shares : marked_letter text ≡ None → (x : A) → shares x ≡ false)
    (some_shares : (letter : ℕ) → marked_letter text ≡ Some letter → (x : A) → asks letter x ≡ shares x) where
  by_letter : (test : ℕ → Bool) (xs : List A) (o : Option ℕ) → marked_letter text ≡ o → ((letter : ℕ) → test letter ≡ list_any (asks letter) xs) → marks_any test text ≡ list_any shares xs
  by_letter test xs None none h = unmarked text test none ∙ sym (any_none shares (none_shares none) xs)
  by_letter test xs (Some letter) some h = marked text test letter some ∙ h letter ∙ any_same (asks letter) shares (some_shares letter some) xs

-- items with one text each
pub marks_given : {A : Type 0} (text_of : A → MarkedText) (text : MarkedText) (test : ℕ → Bool) (xs : List A)
    → ((letter : ℕ) → test letter ≡ list_any (λ x. marks letter (text_of x)) xs) → marks_any test text ≡ list_any (λ x. shares_letter text (text_of x)) xs
marks_given text_of text test xs h =
    by_letter text (λ letter x. marks letter (text_of x)) (λ x. shares_letter text (text_of x))
    (λ none x. unshared text none (text_of x)) (λ letter some x. shared text letter some (text_of x)) test xs (marked_letter text) refl h

-- views with any number of texts
marks_given_by : (test : ℕ → Bool) (views : List Node) → ((letter : ℕ) → test letter ≡ is_marked_by views letter) → (text : MarkedText)
    → marks_any test text ≡ list_any (λ view. list_any (shares_letter text) (marked_of view.kind)) views
marks_given_by test views h text =
    by_letter text (λ letter view. is_marked_in (marked_of view.kind) letter) (λ view. list_any (shares_letter text) (marked_of view.kind))
    (λ none view. any_none (shares_letter text) (unshared text none) (marked_of view.kind))
    (λ letter some view. any_same (marks letter) (shares_letter text) (shared text letter some) (marked_of view.kind)) test views (marked_letter text) refl h

-- the letters that are shared may be told in two ways
pub view_marks_again : (shared all test : ℕ → Bool) (views : List Node) → ((letter : ℕ) → shared letter ≡ all letter) → ((letter : ℕ) → test letter ≡ is_marked_by views letter) → (view : Node)
    → mark_again shared test (marked_of view.kind) ≡ marks_again all views view
view_marks_again shared all test views same h view =
    any_same (λ pair. not (marks_any shared pair.1) && (marks_any test pair.1 || list_any (shares_letter pair.1) pair.0)) _
    (λ pair. ap (λ b. not b && (marks_any test pair.1 || list_any (shares_letter pair.1) pair.0)) (marks_same shared all same pair.1)
    ∙ ap (λ b. not (marks_any all pair.1) && (b || list_any (shares_letter pair.1) pair.0)) (marks_given_by test views h pair.1))
    (after_seen [] (marked_of view.kind))

-- some letters were marked before the texts
module _ (text : MarkedText) (test before : ℕ → Bool) (texts : List MarkedText) where
  on_line : (o : Option ℕ) → marked_letter text ≡ o → ((letter : ℕ) → test letter ≡ (before letter || is_marked_in texts letter)) → marks_any test text ≡ (marks_any before text || list_any (shares_letter text) texts)
  on_line None none h =
      unmarked text test none ∙ sym (any_none (shares_letter text) (unshared text none) texts)
      ∙ ap (λ b. b || list_any (shares_letter text) texts) (sym (unmarked text before none))
  on_line (Some letter) some h =
      marked text test letter some ∙ h letter
      ∙ ap (λ b. before letter || b) (any_same (marks letter) (shares_letter text) (shared text letter some) texts)
      ∙ ap (λ b. b || list_any (shares_letter text) texts) (sym (marked text before letter some))

  pub marks_given_on_line : ((letter : ℕ) → test letter ≡ (before letter || is_marked_in texts letter)) → marks_any test text ≡ (marks_any before text || list_any (shares_letter text) texts)
  marks_given_on_line h = on_line (marked_letter text) refl h
