-- A text is read just where it spells a value, by the law of its declarations.
use Rattle.std.proofs.Common.{◌≡◌, ℕ, List, [], ◌∷◌, ◌++◌, Option, Some, None, refl, sym, ap, ◌∙◌}
use Rattle.std.specs.Prelude.{option_and_then}
use Rattle.std.specs.Option.{option_map}
use Rattle.tv_words.specs.declared.word.Word.{Word}
use Rattle.tv_words.specs.Reading.Steps.{steps}
use Rattle.tv_words.specs.Reading.LineWords.{line_words, words_taken, line_taken}
use Rattle.tv_words.specs.Texts.{EachSpells, declarations, SpellsBy, BeginsBy}
use Rattle.tv_words.proofs.LineWordLemmas.{line_spelled, spelled_line}

-- the words of the lines that have any, or none where a line is faulty
abbrev onto : Option (List Word) → Option (List (List Word)) → Option (List (List Word))
onto None wss = None
onto (Some []) wss = wss
onto (Some (w ∷ ws)) wss = option_map (λ x. (w ∷ ws) ∷ x) wss

abbrev declared : List (List ℕ) → Option (List (List Word))
declared [] = Some []
declared (l ∷ ls) = onto (line_words l) (declared ls)

each_declared : (lines : List (List ℕ)) (wss : List (List Word)) → EachSpells lines wss → declared lines ≡ Some (declarations wss)
each_declared [] [] h = refl
each_declared [] (ws ∷ wss) h = absurd h
each_declared (l ∷ ls) [] h = absurd h
each_declared (l ∷ ls) ([] ∷ wss) h = rw (spelled_line l [] h.0) (each_declared ls wss h.1)
each_declared (l ∷ ls) ((w ∷ ws) ∷ wss) h = rw (spelled_line l (w ∷ ws) h.0, each_declared ls wss h.1) refl

abbrev Each : List (List ℕ) → List (List Word) → Type 0
Each lines ds = (wss : List (List Word)) × EachSpells lines wss × (declarations wss ≡ ds)

onto_each : (l : List ℕ) (ls : List (List ℕ)) (ds : List (List Word)) (o : Option (List Word)) (r : Option (List (List Word))) → line_words l ≡ o → ((es : List (List Word)) → r ≡ Some es → Each ls es) → onto o r ≡ Some ds → Each (l ∷ ls) ds
onto_each l ls ds None r eo later e = absurd cc
onto_each l ls ds (Some []) r eo later e = let t = later ds e in ([] ∷ t.0, (line_spelled l [] eo, t.1), t.2)
onto_each l ls ds (Some (w ∷ ws)) None eo later e = absurd cc
onto_each l ls ds (Some (w ∷ ws)) (Some es) eo later e =
    let t = later es refl in
    let same : (w ∷ ws) ∷ es ≡ ds = cc in
    ((w ∷ ws) ∷ t.0, (line_spelled l (w ∷ ws) eo, t.1), ap (λ x. (w ∷ ws) ∷ x) t.2 ∙ same)

declared_each : (lines : List (List ℕ)) (ds : List (List Word)) → declared lines ≡ Some ds → Each lines ds
declared_each [] ds e = ([], tt, cc)
declared_each (l ∷ ls) ds e = onto_each l ls ds (line_words l) (declared ls) refl (declared_each ls) e

append_from : {S E : Type 0} (next : S → E → Option S) (xs ys : List E) → ((s : S) → steps next s (xs ++ ys) ≡ option_and_then (λ t. steps next t ys) (steps next s xs)) → (o : Option S) → option_and_then (λ t. steps next t (xs ++ ys)) o ≡ option_and_then (λ t. steps next t ys) (option_and_then (λ t. steps next t xs) o)
append_from next xs ys later None = refl
append_from next xs ys later (Some t) = later t

pub steps_append : {S E : Type 0} (next : S → E → Option S) (xs ys : List E) (s : S) → steps next s (xs ++ ys) ≡ option_and_then (λ t. steps next t ys) (steps next s xs)
steps_append next [] ys s = refl
steps_append next (x ∷ xs) ys s = append_from next xs ys (steps_append next xs ys) (next s x)

-- the machine over declarations, with what it makes of a value's
module _ {S V : Type 0} (next : S → List Word → Option S) (fresh : S) (finished : S → Option V) (spelling : V → List (List Word)) (Can : V → Type 0) (given_spelled : (wss : List (List Word)) (v : V) → option_and_then finished (steps next fresh wss) ≡ Some v → (wss ≡ spelling v) × Can v) (spelled_given : (v : V) → Can v → option_and_then finished (steps next fresh (spelling v)) ≡ Some v) where
  abbrev both : Option (List (List Word)) → S → Option S
  both o p = option_and_then (steps next p) o

  further : (ls : List (List ℕ)) (ws : List Word) (p : S) (r : Option (List (List Word))) (o : Option S) → next p ws ≡ o → ((q : S) → steps (line_taken next) q ls ≡ both r q) → option_and_then (λ q. steps (line_taken next) q ls) o ≡ both (option_map (λ x. ws ∷ x) r) p
  further ls ws p None None eo later = refl
  further ls ws p None (Some q) eo later = later q
  further ls ws p (Some es) None eo later = rw eo refl
  further ls ws p (Some es) (Some q) eo later = rw eo (later q)

  steps_words : (p : S) (ls : List (List ℕ)) (r : Option (List (List Word))) (o : Option (List Word)) → ((q : S) → steps (line_taken next) q ls ≡ both r q) → option_and_then (λ q. steps (line_taken next) q ls) (words_taken next p o) ≡ both (onto o r) p
  steps_words p ls r None later = refl
  steps_words p ls r (Some []) later = later p
  steps_words p ls r (Some (w ∷ ws)) later = further ls (w ∷ ws) p r (next p (w ∷ ws)) refl later

  steps_lines : (lines : List (List ℕ)) (p : S) → steps (line_taken next) p lines ≡ both (declared lines) p
  steps_lines [] p = refl
  steps_lines (l ∷ ls) p = steps_words p ls (declared ls) (line_words l) (steps_lines ls)

  by_declared : (lines : List (List ℕ)) (v : V) (o : Option (List (List Word))) → declared lines ≡ o → option_and_then finished (both o fresh) ≡ Some v → SpellsBy spelling Can lines v
  by_declared lines v None eo e = absurd cc
  by_declared lines v (Some ds) eo e =
      let r = given_spelled ds v e in
      let t = declared_each lines ds eo in
      record { words = t.0; each = t.1; declared = t.2 ∙ r.0; can = r.1 }

  -- what the lines give is what they spell
  pub lines_spelled : (lines : List (List ℕ)) (v : V) → option_and_then finished (steps (line_taken next) fresh lines) ≡ Some v → SpellsBy spelling Can lines v
  lines_spelled lines v e = by_declared lines v (declared lines) refl (sym (ap (option_and_then finished) (steps_lines lines fresh)) ∙ e)

  pub spelled_lines : (lines : List (List ℕ)) (v : V) → SpellsBy spelling Can lines v → option_and_then finished (steps (line_taken next) fresh lines) ≡ Some v
  spelled_lines lines v h =
      let words : declared lines ≡ Some (spelling v) = each_declared lines h.words h.each ∙ ap (λ x. Some x) h.declared in
      ap (option_and_then finished) (steps_lines lines fresh ∙ ap (λ o. both o fresh) words) ∙ spelled_given v h.can

  begun : (o : Option S) (more : List (List ℕ)) (v : V) → option_and_then finished (option_and_then (λ t. steps (line_taken next) t more) o) ≡ Some v → (p : S) × (o ≡ Some p)
  begun None more v e = absurd cc
  begun (Some p) more v e = (p, refl)

  -- the machine goes along lines that begin a text of the grammar
  pub begins_taken : (lines : List (List ℕ)) → BeginsBy spelling Can lines → (p : S) × (steps (line_taken next) fresh lines ≡ Some p)
  begins_taken lines h = begun (steps (line_taken next) fresh lines) h.0 h.1 (ap (option_and_then finished) (sym (steps_append (line_taken next) lines h.0 fresh)) ∙ spelled_lines (lines ++ h.0) h.1 h.2)
