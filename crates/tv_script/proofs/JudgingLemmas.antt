-- Lines are judged one after another.
use Rattle.std.proofs.Common.{◌≡◌, ℕ, ℤ, ◌+◌, nat_le, Bool, true, false, cond, List, [], ◌∷◌, ◌++◌, length, Option, Some, None, Ok, Err, refl, sym, ap, ◌∙◌, append_assoc, append-nil, arith}
use Rattle.tv_machine.specs.declared.script.Item.{Item}
use Rattle.tv_script.specs.Line.{Line}
use Rattle.tv_script.specs.declared.script_text.ScriptFault.{ScriptFault}
use Rattle.tv_script.specs.declared.script_text.ScriptFault.TheVariants.{OffScreen, TooLong}
use Rattle.tv_script.specs.Judging.{Judgement, judged_from, judged_lines, judgement}
use Rattle.tv_script.specs.Lines.{is_on_screen, items_of_line}
use Rattle.tv_script.specs.Reading.Lines.{script_line_in}
use Rattle.tv_script.specs.Reading.Scripts.{ScriptOutcome, bounded, with_bytes, with_found, with_words}
use Rattle.tv_script.specs.Streams.{AreFirstOf}
use Rattle.tv_words.specs.declared.word.Word.{Word}
use Rattle.tv_words.specs.Reading.LineWords.{line_words}

module _ (width height : ℤ) where
  -- ---- lines, and those after them

  -- the judgement of the line n and those after it, by what that line is read as
  abbrev by_line : ℕ → List Item → List (List ℕ) → ScriptOutcome → Judgement
  by_line n items more r = elim r as (λ _. Judgement) [ Err fault ↦ judgement items (Err fault) | Ok longer ↦ judged_from width height (n + 1) longer more ]

  on_first : (n : ℕ) (x : List ℕ) (xs ys : List (List ℕ)) (items longer : List Item) (r : ScriptOutcome) → ((m : ℕ) (before : List Item) → judged_from width height m before xs ≡ judgement longer (Ok tt) → judged_from width height m before (xs ++ ys) ≡ judged_from width height (m + length xs) longer ys) → by_line n items xs r ≡ judgement longer (Ok tt) → by_line n items (xs ++ ys) r ≡ judged_from width height (n + length (x ∷ xs)) longer ys
  on_first n x xs ys items longer (Err fault) later e = let clash = ap (λ j. j.answer) e in absurd cc
  on_first n x xs ys items longer (Ok further) later e =
      let same : n + 1 + length xs ≡ n + length (x ∷ xs) = omega arith in
      later (n + 1) further e ∙ ap (λ m. judged_from width height m longer ys) same

  -- where lines have no fault, judging goes on with those after them
  judged_on : (xs ys : List (List ℕ)) (n : ℕ) (items longer : List Item) → judged_from width height n items xs ≡ judgement longer (Ok tt) → judged_from width height n items (xs ++ ys) ≡ judged_from width height (n + length xs) longer ys
  judged_on [] ys n items longer e =
      let number : n ≡ n + length {A = List ℕ} [] = omega arith in
      ap (λ x. judged_from width height n x ys) (ap (λ j. j.items) e) ∙ ap (λ m. judged_from width height m longer ys) number
  judged_on (x ∷ xs) ys n items longer e = on_first n x xs ys items longer (with_bytes width height n items x) (λ m before. judged_on xs ys m before longer) e

  one_on : (lines more : List (List ℕ)) (line : List ℕ) (items : List Item) → judged_lines width height lines ≡ judgement items (Ok tt) → judged_lines width height (lines ++ line ∷ more) ≡ judged_from width height (length lines + 1) items (line ∷ more)
  one_on lines more line items e =
      let number : 1 + length lines ≡ length lines + 1 = omega arith in
      judged_on lines (line ∷ more) 1 [] items e ∙ ap (λ m. judged_from width height m items (line ∷ more)) number

  -- with a line that is faulty
  pub judged_refused : (lines more : List (List ℕ)) (line : List ℕ) (items : List Item) (fault : ScriptFault) → judged_lines width height lines ≡ judgement items (Ok tt) → with_bytes width height (length lines + 1) items line ≡ Err fault → judged_lines width height (lines ++ line ∷ more) ≡ judgement items (Err fault)
  judged_refused lines more line items fault e is = one_on lines more line items e ∙ ap (by_line (length lines + 1) items more) is

  -- with one that isn't
  pub judged_push : (lines : List (List ℕ)) (line : List ℕ) (items longer : List Item) → judged_lines width height lines ≡ judgement items (Ok tt) → with_bytes width height (length lines + 1) items line ≡ Ok longer → judged_lines width height (lines ++ line ∷ []) ≡ judgement longer (Ok tt)
  judged_push lines line items longer e is = one_on lines [] line items e ∙ ap (by_line (length lines + 1) items []) is

  -- ---- the items of lines come first, whatever lines follow

  abbrev IsLonger : List Item → List Item → Type 0
  IsLonger items longer = (more : List Item) × (longer ≡ items ++ more)

  bounded_longer : (items more longer : List Item) (b : Bool) → cond b (Ok (items ++ more)) (Err (TooLong)) ≡ Ok longer → IsLonger items longer
  bounded_longer items more longer true e = let same : items ++ more ≡ longer = cc in (more, sym same)
  bounded_longer items more longer false e = absurd cc

  shown_longer : (n : ℕ) (items longer : List Item) (l : Line) (b : Bool) → cond b (bounded (items ++ items_of_line l)) (Err (OffScreen n)) ≡ Ok longer → IsLonger items longer
  shown_longer n items longer l true e = bounded_longer items (items_of_line l) longer (nat_le (length (items ++ items_of_line l)) 100000) e
  shown_longer n items longer l false e = absurd cc

  found_longer : (n : ℕ) (items longer : List Item) (o : Option Line) → with_found width height n items o ≡ Ok longer → IsLonger items longer
  found_longer n items longer None e = absurd cc
  found_longer n items longer (Some l) e = shown_longer n items longer l (is_on_screen width height l) e

  words_longer : (n : ℕ) (items longer : List Item) (o : Option (List Word)) → with_words width height n items o ≡ Ok longer → IsLonger items longer
  words_longer n items longer None e = absurd cc
  words_longer n items longer (Some []) e = let same : items ≡ longer = cc in ([], sym same ∙ sym (append-nil items))
  words_longer n items longer (Some (w ∷ ws)) e = found_longer n items longer (script_line_in (w ∷ ws)) e

  first_at : (n : ℕ) (items : List Item) (xs : List (List ℕ)) (r : ScriptOutcome) → ((longer : List Item) → r ≡ Ok longer → IsLonger items longer) → ((m : ℕ) (before : List Item) → AreFirstOf before (judged_from width height m before xs)) → AreFirstOf items (by_line n items xs r)
  first_at n items xs (Err fault) longer later = ([], sym (append-nil items))
  first_at n items xs (Ok further) longer later =
      let one = longer further refl in
      let rest = later (n + 1) further in
      (one.0 ++ rest.0, rest.1 ∙ ap (λ x. x ++ rest.0) one.1 ∙ append_assoc items one.0 rest.0)

  first_from : (xs : List (List ℕ)) (n : ℕ) (items : List Item) → AreFirstOf items (judged_from width height n items xs)
  first_from [] n items = ([], sym (append-nil items))
  first_from (x ∷ xs) n items = first_at n items xs (with_bytes width height n items x) (λ longer. words_longer n items longer (line_words x)) (λ m before. first_from xs m before)

  pub judged_first : (lines more : List (List ℕ)) (items : List Item) → judged_lines width height lines ≡ judgement items (Ok tt) → AreFirstOf items (judged_lines width height (lines ++ more))
  judged_first lines more items e = rw (judged_on lines more 1 [] items e) (first_from more (1 + length lines) items)
