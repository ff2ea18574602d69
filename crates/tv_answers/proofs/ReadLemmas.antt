-- What reading a log gives is what its lines answer.
use Rattle.std.proofs.Common.{◌≡◌, ℕ, suc, ◌+◌, ◌<◌, ◌≤◌, ◌==◌, true, false, List, [], ◌∷◌, length, take, Option, Some, None, Result, Ok, Err, refl, sym, ap, ◌∙◌, add-one, arith}
use Rattle.std.specs.Prelude.{IfErr, IfSome, IsSome, option_and_then, option_map}
use Rattle.std.proofs.lemmas.Bool.{eqb-true}
use Rattle.tv_model.specs.declared.desc.Desc.{Desc}
use Rattle.tv_words.specs.declared.word.Word.{Word}
use Rattle.tv_words.specs.Lines.{lines_of}
use Rattle.tv_words.specs.Words.{SpellsWords}
use Rattle.tv_words.specs.Reading.LineWords.{words_taken}
use Rattle.tv_words.proofs.LineWordLemmas.{found_words}
use Rattle.tv_answers.specs.declared.answers.Answers.{Answers}
use Rattle.tv_answers.specs.declared.progress.Progress.{Progress}
use Rattle.tv_answers.specs.declared.reading.AnswersFault.{AnswersFault}
use Rattle.tv_answers.specs.declared.reading.AnswersFault.TheVariants.{NoMemory, Syntax, TooLong}
use Rattle.tv_answers.specs.LogLines.{is_row}
use Rattle.tv_answers.specs.ReadLogs.{IsFirstUnread, RefusesAnswers, answers_in, line_answered, lines_answered, nothing_read, words_answered}
use Rattle.tv_answers.specs.Outcomes.{LogOutcome, Value, Fault, StopsAt, log_outcome, outcome_from}

abbrev read_so : Option Progress → Option Answers
read_so o = option_map (λ p. p.answers) o

abbrev went : Desc → ℕ → List (List ℕ) → Option Progress → LogOutcome
went d n ls o = elim o as (λ _. LogOutcome) [ None ↦ Fault n | Some further ↦ outcome_from d (n + 1) further ls ]

-- ---- all lines are read

after_value : (d : Desc) (n : ℕ) (ls : List (List ℕ)) (o : Option Progress) (a : Answers) → ((p : Progress) → outcome_from d (n + 1) p ls ≡ Value a → read_so (lines_answered d (n + 1) p ls) ≡ Some a) → went d n ls o ≡ Value a → read_so (option_and_then (λ further. lines_answered d (n + 1) further ls) o) ≡ Some a
after_value d n ls None a later e = absurd cc
after_value d n ls (Some p) a later e = later p e

value_read : (d : Desc) (ls : List (List ℕ)) (n : ℕ) (p : Progress) (a : Answers) → outcome_from d n p ls ≡ Value a → read_so (lines_answered d n p ls) ≡ Some a
value_read d [] n p a e = cc
value_read d (l ∷ ls) n p a e = after_value d n ls (line_answered d n p l) a (λ q. value_read d ls (n + 1) q a) e

pub all_read : (d : Desc) (text : List ℕ) (a : Answers) → log_outcome d text ≡ Value a → answers_in d text ≡ Some a
all_read d text a e = value_read d (lines_of text) 1 (nothing_read d) a e

-- ---- the first line that isn't

record Stops (d : Desc) (n : ℕ) (p : Progress) (lines : List (List ℕ)) (line : ℕ) : Type 0 where
  before : ℕ
  number : line ≡ n + before
  within : before < length lines
  reads : IsSome (lines_answered d n p (take before lines))
  stops : lines_answered d n p (take (before + 1) lines) ≡ None

after_fault : (d : Desc) (n line : ℕ) (p : Progress) (l : List ℕ) (ls : List (List ℕ)) (o : Option Progress) → line_answered d n p l ≡ o → ((q : Progress) → outcome_from d (n + 1) q ls ≡ Fault line → Stops d (n + 1) q ls line) → went d n ls o ≡ Fault line → Stops d n p (l ∷ ls) line
after_fault d n line p l ls None eo later e =
    record { before = 0; number = (let same : n ≡ line = cc in omega arith); within = omega arith; reads = refl; stops = rw eo refl }
after_fault d n line p l ls (Some q) eo later e =
    let r = later q e in
    record {
      before = suc r.before;
      number = omega (arith, r.number);
      within = omega (arith, r.within);
      reads = rw eo r.reads;
      stops = (
          let longer : take (suc r.before + 1) (l ∷ ls) ≡ l ∷ take (r.before + 1) ls = rw (add-one, add-one) refl in
          ap (lines_answered d n p) longer ∙ rw eo r.stops);
    }

fault_stops : (d : Desc) (ls : List (List ℕ)) (n line : ℕ) (p : Progress) → outcome_from d n p ls ≡ Fault line → Stops d n p ls line
fault_stops d [] n line p e = absurd cc
fault_stops d (l ∷ ls) n line p e = after_fault d n line p l ls (line_answered d n p l) refl (λ q. fault_stops d ls (n + 1) line q) e

so_too : (o : Option Progress) → IsSome o → IsSome (read_so o)
so_too None some = some
so_too (Some p) some = refl

first_unread : (d : Desc) (ls : List (List ℕ)) (line : ℕ) → outcome_from d 1 (nothing_read d) ls ≡ Fault line → IsFirstUnread d ls line
first_unread d ls line e =
    let r = fault_stops d ls 1 line (nothing_read d) e in
    let number : line ≡ r.before + 1 = omega (arith, r.number) in
    record {
      before = r.before;
      number = number;
      within = r.within;
      reads = so_too (lines_answered d 1 (nothing_read d) (take r.before ls)) r.reads;
      stops = rw number (ap read_so r.stops);
    }

pub all_refused : (r : Result Answers AnswersFault) (d : Desc) (text : List ℕ) → length text ≤ 1048576 → IfErr r (λ fault. StopsAt fault (log_outcome d text)) → IfErr r (RefusesAnswers d text)
all_refused (Ok answers) d text short h = tt
all_refused (Err NoMemory) d text short h = tt
all_refused (Err (Syntax line)) d text short h = (short, first_unread d (lines_of text) line h)
all_refused (Err TooLong) d text short h = absurd h

-- ---- a line, by the answers of the functions that read it

module _ (d : Desc) (n : ℕ) (p : Progress) (line : List ℕ) (found : Option (List Word)) (unrowed : false ≡ is_row line) (spelled : IfSome found (λ ws. SpellsWords line ws)) (only : (ws : List Word) → SpellsWords line ws → found ≡ Some ws) where
  by_words : words_taken (words_answered d n) p found ≡ line_answered d n p line
  by_words = rw (← unrowed) (ap (words_taken (words_answered d n) p) (found_words line found spelled only))

  pub faulty_line : found ≡ None → line_answered d n p line ≡ None
  faulty_line e = sym by_words ∙ ap (words_taken (words_answered d n) p) e

  no_words : (ws : List Word) → true ≡ (length ws == 0) → words_taken (words_answered d n) p (Some ws) ≡ Some p
  no_words [] e = refl
  no_words (w ∷ ws) e = absurd (omega (arith, eqb-true (length (w ∷ ws)) 0 (sym e)))

  pub line_without_words : (ws : List Word) → found ≡ Some ws → true ≡ (length ws == 0) → line_answered d n p line ≡ Some p
  line_without_words ws e none = sym by_words ∙ ap (words_taken (words_answered d n) p) e ∙ no_words ws none

  with_words : (ws : List Word) → false ≡ (length ws == 0) → words_taken (words_answered d n) p (Some ws) ≡ words_answered d n p ws
  with_words [] e = absurd cc
  with_words (w ∷ ws) e = refl

  pub answered_line : (ws : List Word) (further : Option Progress) → found ≡ Some ws → false ≡ (length ws == 0) → further ≡ words_answered d n p ws → line_answered d n p line ≡ further
  answered_line ws further e some took = sym by_words ∙ ap (words_taken (words_answered d n) p) e ∙ with_words ws some ∙ sym took
