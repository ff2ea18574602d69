-- Scripts whose lines are taken one by one, each where a test of it and of the lines before it allows.
use Rattle.std.proofs.Common.{◌≡◌, ℕ, ◌<◌, ◌⊎◌, inl, inr, Bool, true, false, cond, List, [], ◌∷◌, ◌++◌, length, drop, Option, Some, None, refl, sym, ap, ◌∙◌, append_assoc, subst, arith}
use Rattle.std.specs.Prelude.{IsTrue, if◌then◌else◌, map, option_and_then}
use Rattle.std.proofs.lemmas.List.{append-nil, take-append-drop}
use Rattle.tv_script.proofs.LineLemmas.{line_read, read_line}
use Rattle.tv_script.specs.Line.{Line}
use Rattle.tv_script.specs.Lines.{IsLine, words_of_line}
use Rattle.tv_script.specs.Reading.Lines.{script_line_in}
use Rattle.tv_script.specs.Scripts.{script_words}
use Rattle.tv_words.proofs.TextLemmas as texts
use Rattle.tv_words.specs.declared.word.Word.{Word}
use Rattle.tv_words.specs.Reading.LineWords.{line_taken}
use Rattle.tv_words.specs.Reading.Steps.{steps}
use Rattle.tv_words.specs.Texts.{BeginsBy, IsFirstFaultyLine, SpellsBy}

-- a test of a line and of those before it
abbrev pub Test : Type 0
Test = List Line → Line → Bool

-- one line more, where the test allows it
abbrev pub tested : Test → List Line → Option Line → Option (List Line)
tested can ls None = None
tested can ls (Some l) = if can ls l then Some (ls ++ l ∷ []) else None

-- the same of its words
abbrev pub added : Test → List Line → List Word → Option (List Line)
added can ls ws = tested can ls (script_line_in ws)

-- lines that can be spelled, each of which the test allows
abbrev pub Allowed : Test → List Line → List Line → Type 0
Allowed can before [] = Unit {0}
Allowed can before (l ∷ ls) = IsLine l × IsTrue (can before l) × Allowed can (before ++ l ∷ []) ls

same_cons : (a b : List Word) (xs ys : List (List Word)) → a ≡ b → xs ≡ ys → a ∷ xs ≡ b ∷ ys
same_cons a b xs ys e f = rw (e, f) refl

-- ---- lists of words

module _ (can : Test) where
  abbrev given : List Line → List (List Word) → Option (List Line)
  given ls wss = option_and_then (λ s. Some s) (steps (added can) ls wss)

  abbrev Adds : List Line → List (List Word) → List Line → Type 0
  Adds ls wss all = (more : List Line) × (all ≡ ls ++ more) × (wss ≡ map words_of_line more) × Allowed can ls more

  adds_if : (ls : List Line) (ws : List Word) (wss : List (List Word)) (all : List Line) (l : Line) (b : Bool) → can ls l ≡ b → script_line_in ws ≡ Some l → ((s : List Line) → given s wss ≡ Some all → Adds s wss all) → option_and_then (λ s. Some s) (option_and_then (λ t. steps (added can) t wss) (cond b (Some (ls ++ l ∷ [])) None)) ≡ Some all → Adds ls (ws ∷ wss) all
  adds_if ls ws wss all l true eb el later e =
      let t = later (ls ++ l ∷ []) e in
      let r = line_read ws l el in
      (l ∷ t.0, t.1 ∙ append_assoc ls (l ∷ []) t.0, same_cons ws (words_of_line l) wss (map words_of_line t.0) (sym r.0) t.2, (r.1, eb, t.3))
  adds_if ls ws wss all l false eb el later e = absurd cc

  adds_one : (ls : List Line) (ws : List Word) (wss : List (List Word)) (all : List Line) (o : Option Line) → script_line_in ws ≡ o → ((s : List Line) → given s wss ≡ Some all → Adds s wss all) → option_and_then (λ s. Some s) (option_and_then (λ t. steps (added can) t wss) (tested can ls o)) ≡ Some all → Adds ls (ws ∷ wss) all
  adds_one ls ws wss all None eo later e = absurd cc
  adds_one ls ws wss all (Some l) eo later e = adds_if ls ws wss all l (can ls l) refl eo later e

  adds : (wss : List (List Word)) (ls all : List Line) → given ls wss ≡ Some all → Adds ls wss all
  adds [] ls all e = ([], (let same : ls ≡ all = cc in sym same ∙ sym (append-nil ls)), refl, tt)
  adds (ws ∷ wss) ls all e = adds_one ls ws wss all (script_line_in ws) refl (λ s. adds wss s all) e

  given_again : (more ls : List Line) → Allowed can ls more → given ls (map words_of_line more) ≡ Some (ls ++ more)
  given_again [] ls is = ap (λ x. Some x) (sym (append-nil ls))
  given_again (l ∷ more) ls is = rw (read_line l is.0, is.1) (given_again more (ls ++ l ∷ []) is.2 ∙ ap (λ x. Some x) (append_assoc ls (l ∷ []) more))

-- ---- lines of bytes

module _ (can : Test) (Wanted : List Line → Type 0) (into : (ls : List Line) → Allowed can [] ls → Wanted ls) (from : (ls : List Line) → Wanted ls → Allowed can [] ls) where
  given_spelled : (wss : List (List Word)) (ls : List Line) → given can [] wss ≡ Some ls → (wss ≡ script_words ls) × Wanted ls
  given_spelled wss ls e = let t = adds can wss [] ls e in subst (λ x. (wss ≡ script_words x) × Wanted x) (sym t.1) (t.2, into t.0 t.3)

  spelled_given : (ls : List Line) → Wanted ls → given can [] (script_words ls) ≡ Some ls
  spelled_given ls is = given_again can ls [] (from ls is)

  some_back : (o : Option (List Line)) (all : List Line) → option_and_then (λ s. Some s) o ≡ Some all → o ≡ Some all
  some_back None all e = absurd cc
  some_back (Some s) all e = e

  -- the lines that are taken are those that are spelled
  pub lines_spelled : (lines : List (List ℕ)) (ls : List Line) → steps (line_taken (added can)) [] lines ≡ Some ls → SpellsBy script_words Wanted lines ls
  lines_spelled lines ls e = texts.lines_spelled (added can) [] (λ s. Some s) script_words Wanted given_spelled spelled_given lines ls (ap (option_and_then (λ s. Some s)) e)

  pub spelled_lines : (lines : List (List ℕ)) (ls : List Line) → SpellsBy script_words Wanted lines ls → steps (line_taken (added can)) [] lines ≡ Some ls
  spelled_lines lines ls h = some_back (steps (line_taken (added can)) [] lines) ls (texts.spelled_lines (added can) [] (λ s. Some s) script_words Wanted given_spelled spelled_given lines ls h)

  -- lines begin a script just where they are taken
  pub begins_taken : (lines : List (List ℕ)) → BeginsBy script_words Wanted lines → (s : List Line) × (steps (line_taken (added can)) [] lines ≡ Some s)
  begins_taken = texts.begins_taken (added can) [] (λ s. Some s) script_words Wanted given_spelled spelled_given

  pub taken_begins : (lines : List (List ℕ)) (ls : List Line) → steps (line_taken (added can)) [] lines ≡ Some ls → BeginsBy script_words Wanted lines
  taken_begins lines ls e = ([], ls, subst (λ x. SpellsBy script_words Wanted x ls) (sym (append-nil lines)) (lines_spelled lines ls e))

  pub no_begin : (lines : List (List ℕ)) → steps (line_taken (added can)) [] lines ≡ None → BeginsBy script_words Wanted lines → ⊥
  no_begin lines none b = let t = begins_taken lines b in let clash : None ≡ Some t.0 = sym none ∙ t.1 in absurd cc

-- ---- first faults

-- what begins a script as wanted begins one that is less wanted
pub begins_weaker : (Wanted Less : List Line → Type 0) → ((ls : List Line) → Wanted ls → Less ls) → (lines : List (List ℕ)) → BeginsBy script_words Wanted lines → BeginsBy script_words Less lines
begins_weaker Wanted Less weaker lines b = (b.0, b.1, record { words = b.2.words; each = b.2.each; declared = b.2.declared; can = weaker b.1 b.2.can })

-- lines with a faulty one spell nothing
pub faulty_unspelled : (Wanted : List Line → Type 0) (lines : List (List ℕ)) (line : ℕ) → IsFirstFaultyLine script_words Wanted lines line → (ls : List Line) → SpellsBy script_words Wanted lines ls → ⊥
faulty_unspelled Wanted lines line fault ls spelled =
    let within : (fault.before < length lines) ⊎ (fault.before ≡ length lines) = grind (arith, fault.within) in
    elim within [
      | inl less ↦ fault.stops less (drop line lines, ls, subst (λ x. SpellsBy script_words Wanted x ls) (sym (take-append-drop line lines)) spelled)
      | inr same ↦ fault.missing same ls spelled
    ]
