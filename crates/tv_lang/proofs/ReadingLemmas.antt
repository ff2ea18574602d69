-- What reading gives is what the grammar says.
use Rattle.std.proofs.Common.{◌≡◌, ◌≢◌, ℕ, suc, ◌+◌, ◌<◌, ◌≤◌, ◌==◌, Bool, true, false, not, cond, List, [], ◌∷◌, ◌++◌, length, take, Option, Some, None, Result, Ok, Err, refl, sym, ap, ◌∙◌, subst, add-one, arith}
use Rattle.std.specs.Prelude.{ℤ, pos, negsuc, codes, option_and_then, IfOk, IfErr}
use Rattle.std.specs.List.{AllByRecursion}
use Rattle.std.proofs.lemmas.List.{take_all}
use Rattle.std.proofs.lemmas.Bool.{eqb-true}
use Rattle.tv_model.specs.declared.desc.Desc.{Desc}
use Rattle.tv_model.specs.declared.desc.Version.TheVariants as versions
use Rattle.tv_lang.specs.declared.description.LangFault.{LangFault}
use Rattle.tv_lang.specs.declared.description.LangFault.TheVariants.{NoMemory, Syntax, TooLong, Version}
use Rattle.tv_words.specs.declared.word.Word.{Word}
use Rattle.tv_words.specs.declared.word.Word.TheVariants.{Bare}
use Rattle.tv_lang.specs.declared.progress.Progress.{Progress}
use Rattle.tv_lang.specs.declared.stage.Stage.{Stage}
use Rattle.tv_lang.specs.declared.stage.Stage.TheVariants as stages
use Rattle.tv_declarations.specs.declared.declaration.Declaration.{Declaration}
use Rattle.tv_declarations.specs.declared.declaration.Declaration.TheVariants as declared
use Rattle.tv_declarations.specs.declared.place.Position.{Position}
use Rattle.tv_words.specs.Reading.Steps.{steps}
use Rattle.tv_words.specs.Lines.{lines_of}
use Rattle.tv_words.specs.Words.{SpellsWords}
use Rattle.tv_words.specs.Reading.LineWords.{line_words, words_taken}
use Rattle.tv_words.specs.Fields.{is_bare_word}
use Rattle.tv_words.specs.Reading.Numbers.{number_in}
use Rattle.tv_declarations.specs.Reading.Declarations.{declaration_in}
use Rattle.tv_lang.specs.Reading.Stages.{nothing_read, is_other, other_version, is_other_version, declaration_taken, position, progress, description_line_taken, finished_description}
use Rattle.tv_declarations.specs.Spelling.{word_lines, IsDescription}
use Rattle.tv_words.specs.Fields.{number_word, IsNumber}
use Rattle.tv_words.specs.Texts.{IsFirstFaultyLine}
use Rattle.tv_lang.specs.Faults.{SpellsLines, Spells, IsOtherVersion, RefusesToParse, GivesDescription}
use Rattle.tv_lang.specs.Reading.Descriptions.{LineStep, Next, Faulty, OfOtherVersion, step_from, step_if, words_step, line_step, DescriptionOutcome, Value, Fault, Other, description_at_end, description_from, description_outcome, DescriptionStopsAt}
use Rattle.tv_words.proofs.FieldLemmas.{word_is, number_word_read, read_number_word}
use Rattle.tv_declarations.proofs.OptionLemmas.{map_some, then_some}
use Rattle.tv_declarations.proofs.PlaceLemmas.{on_line}
use Rattle.tv_declarations.proofs.DeclarationLemmas.{declaration_read}
use Rattle.tv_lang.proofs.StageLemmas.{both, so_far, Sound, goes}
use Rattle.tv_words.proofs.LineWordLemmas.{line_spelled, spelled_line}
use Rattle.tv_lang.proofs.DescriptionTextLemmas.{taken_line, lines_spelled, spelled_lines, begins_taken, taken_begins}

-- reading on after a line
abbrev went : ℕ → List (List ℕ) → LineStep → DescriptionOutcome
went n ls step = elim step as (λ _. DescriptionOutcome) [ Next q ↦ description_from (n + 1) q ls | Faulty ↦ Fault n | OfOtherVersion ↦ Other ]

-- a line `tvd` of another version is no declaration
version_clash : (v : Word) (one two : Bool) → is_bare_word v (codes "1") ≡ one → is_bare_word v (codes "2") ≡ two → is_other (number_in v) ≡ true → cond one (Some (declared.Version versions.One)) (cond two (Some (declared.Version versions.Two)) None) ≡ None
version_clash v true two eo et e = let clash = rw (word_is v (codes "1") eo) at e in absurd cc
version_clash v false true eo et e = let clash = rw (word_is v (codes "2") et) at e in absurd cc
version_clash v false false eo et e = refl

other_stops : (here : Position) (ws : List Word) → other_version ws ≡ true → declaration_in here ws ≡ None
other_stops here [] e = absurd cc
other_stops here (a ∷ []) e = absurd cc
other_stops here (k ∷ v ∷ []) e =
    let h = both (is_bare_word k (codes "tvd")) (is_other (number_in v)) e in
    ap (λ w. declaration_in here (w ∷ v ∷ [])) (word_is k (codes "tvd") h.0) ∙ version_clash v (is_bare_word v (codes "1")) (is_bare_word v (codes "2")) refl refl h.1
other_stops here (a ∷ b ∷ c ∷ ds) e = absurd cc

stops_of_other : (next : ℕ) (stage : Stage) (d : Desc) (ws : List Word) → is_other_version (record { next = next; stage = stage; desc = d }) ws ≡ true → description_line_taken (record { next = next; stage = stage; desc = d }) ws ≡ None
stops_of_other next stages.Version d ws e = rw (other_stops (on_line next 0) ws e) refl
stops_of_other next stages.Screen d ws e = absurd cc
stops_of_other next stages.Between d ws e = absurd cc
stops_of_other next (stages.InMenu menu) d ws e = absurd cc
stops_of_other next (stages.InWindow window) d ws e = absurd cc
stops_of_other next (stages.InViews dialog panes) d ws e = absurd cc
stops_of_other next (stages.InRules dialog) d ws e = absurd cc

-- what a line does, and whether the machine goes on
abbrev Does : LineStep → Option Progress → Type 0
Does (Next q) o = o ≡ Some q
Does Faulty o = o ≡ None
Does OfOtherVersion o = o ≡ None

from_does : (o : Option Progress) → Does (step_from o) o
from_does None = refl
from_does (Some q) = refl

if_does : (b : Bool) (o : Option Progress) → (b ≡ true → o ≡ None) → Does (step_if b o) o
if_does true o stops = stops refl
if_does false o stops = from_does o

words_do : (p : Progress) (o : Option (List Word)) → Does (words_step p o) (words_taken description_line_taken p o)
words_do p None = refl
words_do p (Some []) = refl
words_do p (Some (w ∷ ws)) = if_does (is_other_version p (w ∷ ws)) (description_line_taken p (w ∷ ws)) (stops_of_other p.next p.stage p.desc (w ∷ ws))

line_does : (p : Progress) (l : List ℕ) → Does (line_step p l) (taken_line p l)
line_does p l = words_do p (line_words l)

abbrev given_from : Progress → List (List ℕ) → Option Desc
given_from p lines = option_and_then finished_description (steps taken_line p lines)

-- ---- a description is given

end_value : (n : ℕ) (o : Option Desc) (d : Desc) → description_at_end n o ≡ Value d → o ≡ Some d
end_value n None d e = absurd cc
end_value n (Some f) d e = cc

after_value : (n : ℕ) (p : Progress) (l : List ℕ) (ls : List (List ℕ)) (d : Desc) (step : LineStep) → Does step (taken_line p l) → ((m : ℕ) (q : Progress) → description_from m q ls ≡ Value d → given_from q ls ≡ Some d) → went n ls step ≡ Value d → given_from p (l ∷ ls) ≡ Some d
after_value n p l ls d (Next q) does later e = rw does (later (n + 1) q e)
after_value n p l ls d Faulty does later e = absurd cc
after_value n p l ls d OfOtherVersion does later e = absurd cc

reading_gives : (lines : List (List ℕ)) (n : ℕ) (p : Progress) (d : Desc) → description_from n p lines ≡ Value d → given_from p lines ≡ Some d
reading_gives [] n p d e = end_value n (finished_description p) d e
reading_gives (l ∷ ls) n p d e = after_value n p l ls d (line_step p l) (line_does p l) (λ m q. reading_gives ls m q d) e

value_after : (n : ℕ) (p : Progress) (l : List ℕ) (ls : List (List ℕ)) (d : Desc) (step : LineStep) → Does step (taken_line p l) → ((m : ℕ) (q : Progress) → given_from q ls ≡ Some d → description_from m q ls ≡ Value d) → given_from p (l ∷ ls) ≡ Some d → went n ls step ≡ Value d
value_after n p l ls d (Next q) does later e = later (n + 1) q (rw does at e)
value_after n p l ls d Faulty does later e = let clash = rw does at e in absurd cc
value_after n p l ls d OfOtherVersion does later e = let clash = rw does at e in absurd cc

gives_reading : (lines : List (List ℕ)) (n : ℕ) (p : Progress) (d : Desc) → given_from p lines ≡ Some d → description_from n p lines ≡ Value d
gives_reading [] n p d e = ap (description_at_end n) e
gives_reading (l ∷ ls) n p d e = value_after n p l ls d (line_step p l) (line_does p l) (λ m q. gives_reading ls m q d) e

pub read_spelled : (text : List ℕ) (d : Desc) → description_outcome text ≡ Value d → SpellsLines (lines_of text) d
read_spelled text d e = lines_spelled (lines_of text) d (reading_gives (lines_of text) 1 nothing_read d e)

pub spelled_read : (text : List ℕ) (d : Desc) → SpellsLines (lines_of text) d → description_outcome text ≡ Value d
spelled_read text d h = gives_reading (lines_of text) 1 nothing_read d (spelled_lines (lines_of text) d h)

-- ---- the first faulty line

pub record Stops (p : Progress) (lines : List (List ℕ)) (n line : ℕ) : Type 0 where
  before : ℕ
  number : line ≡ n + before
  within : before ≤ length lines
  further : Progress
  goes : steps taken_line p (take before lines) ≡ Some further
  stops : before < length lines → steps taken_line p (take (before + 1) lines) ≡ None
  ends : before ≡ length lines → finished_description further ≡ None

end_fault : (n line : ℕ) (o : Option Desc) → description_at_end n o ≡ Fault line → (o ≡ None) × (line ≡ n)
end_fault n line None e = (refl, cc)
end_fault n line (Some d) e = absurd cc

after_fault : (n line : ℕ) (p : Progress) (l : List ℕ) (ls : List (List ℕ)) (step : LineStep) → Does step (taken_line p l) → ((m : ℕ) (q : Progress) → description_from m q ls ≡ Fault line → Stops q ls m line) → went n ls step ≡ Fault line → Stops p (l ∷ ls) n line
after_fault n line p l ls (Next q) does later e =
    let r = later (n + 1) q e in
    record {
      before = suc r.before;
      number = omega (arith, r.number);
      within = omega (arith, r.within);
      further = r.further;
      goes = rw does r.goes;
      stops = λ h. rw (add-one, does) (rw add-one at (r.stops (omega arith)));
      ends = λ h. r.ends (omega arith);
    }
after_fault n line p l ls Faulty does later e =
    record { before = 0; number = (let same : n ≡ line = cc in omega arith); within = omega arith; further = p; goes = refl; stops = λ h. rw does refl; ends = λ h. absurd (omega arith) }
after_fault n line p l ls OfOtherVersion does later e = absurd cc

reading_stops : (lines : List (List ℕ)) (n line : ℕ) (p : Progress) → description_from n p lines ≡ Fault line → Stops p lines n line
reading_stops [] n line p e =
    let r = end_fault n line (finished_description p) e in
    record { before = 0; number = omega (arith, r.1); within = omega arith; further = p; goes = refl; stops = λ h. absurd (omega arith); ends = λ h. r.0 }
reading_stops (l ∷ ls) n line p e = after_fault n line p l ls (line_step p l) (line_does p l) (λ m q. reading_stops ls m line q) e

pub first_fault : (lines : List (List ℕ)) (line : ℕ) → description_from 1 nothing_read lines ≡ Fault line → IsFirstFaultyLine word_lines IsDescription lines line
first_fault lines line e =
    let r = reading_stops lines 1 line nothing_read e in
    let number : line ≡ r.before + 1 = omega (arith, r.number) in
    record {
      before = r.before;
      number = number;
      within = r.within;
      begins = taken_begins (take r.before lines) r.further r.goes;
      stops = λ h b. (let t = begins_taken (take line lines) b in let s : steps taken_line nothing_read (take line lines) ≡ None = rw number (r.stops h) in let clash : None ≡ Some t.0 = sym s ∙ t.1 in absurd cc);
      missing = λ h d spelled. (
          let whole : take r.before lines ≡ lines = take_all r.before lines (omega arith) in
          let goes = rw whole at r.goes in
          let given : finished_description r.further ≡ Some d = sym (ap (option_and_then finished_description) goes) ∙ spelled_lines lines d spelled in
          let clash : None ≡ Some d = sym (r.ends h) ∙ given in
          absurd cc);
    }

-- ---- another version

abbrev NotFirst : Stage → Type 0
NotFirst stages.Version = ⊥
NotFirst _ = Unit {0}

not_nothing : (xs : List Declaration) (x : Declaration) → [] ≡ xs ++ x ∷ [] → ⊥
not_nothing [] x e = absurd cc
not_nothing (y ∷ ys) x e = absurd cc

not_first : (stage : Stage) (d : Desc) (xs : List Declaration) (x : Declaration) → so_far stage d ≡ xs ++ x ∷ [] → NotFirst stage
not_first stages.Version d xs x e = not_nothing xs x e
not_first stages.Screen d xs x e = tt
not_first stages.Between d xs x e = tt
not_first (stages.InMenu menu) d xs x e = tt
not_first (stages.InWindow window) d xs x e = tt
not_first (stages.InViews dialog panes) d xs x e = tt
not_first (stages.InRules dialog) d xs x e = tt

-- a stage after the first, as it is reached
abbrev Further : Progress → Type 0
Further p = NotFirst p.stage × Sound p.stage p.desc

moves : (p : Progress) (ws : List Word) (q : Progress) → description_line_taken p ws ≡ Some q → Sound p.stage p.desc → Further q
moves p ws q e s =
    let m = map_some (progress (p.next + 1)) (option_and_then (declaration_taken p.stage p.desc) (declaration_in (position p) ws)) q e in
    let t = then_some (declaration_taken p.stage p.desc) (declaration_in (position p) ws) m.0 m.1 in
    let went = goes p.stage p.desc t.0 m.0 t.2 s (declaration_read (position p) ws t.0 t.1).inside in
    subst Further m.2 (not_first m.0.0 m.0.1 (so_far p.stage p.desc) t.0 went.1, went.0)

never_at_end : (n : ℕ) (o : Option Desc) → description_at_end n o ≡ Other → ⊥
never_at_end n None e = cc
never_at_end n (Some d) e = cc

not_other : (next : ℕ) (stage : Stage) (d : Desc) (ws : List Word) → NotFirst stage → is_other_version (record { next = next; stage = stage; desc = d }) ws ≡ false
not_other next stages.Version d ws h = absurd h
not_other next stages.Screen d ws h = refl
not_other next stages.Between d ws h = refl
not_other next (stages.InMenu menu) d ws h = refl
not_other next (stages.InWindow window) d ws h = refl
not_other next (stages.InViews dialog panes) d ws h = refl
not_other next (stages.InRules dialog) d ws h = refl

never_after : (n : ℕ) (ls : List (List ℕ)) (o : Option Progress) → ((q : Progress) → o ≡ Some q → description_from (n + 1) q ls ≡ Other → ⊥) → went n ls (step_from o) ≡ Other → ⊥
never_after n ls None later e = cc
never_after n ls (Some q) later e = later q refl e

never_by : (n : ℕ) (p : Progress) (ls : List (List ℕ)) (o : Option (List Word)) → Further p → ((q : Progress) → Further q → description_from (n + 1) q ls ≡ Other → ⊥) → went n ls (words_step p o) ≡ Other → ⊥
never_by n p ls None h later e = cc
never_by n p ls (Some []) h later e = later p h e
never_by n p ls (Some (w ∷ ws)) h later e =
    never_after n ls (description_line_taken p (w ∷ ws)) (λ q eq. later q (moves p (w ∷ ws) q eq h.1)) (rw (not_other p.next p.stage p.desc (w ∷ ws) h.0) at e)

never_other : (lines : List (List ℕ)) (n : ℕ) (p : Progress) → Further p → description_from n p lines ≡ Other → ⊥
never_other [] n p h e = never_at_end n (finished_description p) e
never_other (l ∷ ls) n p h e = never_by n p ls (line_words l) h (λ q. never_other ls (n + 1) q) e

-- the words of a first declaration of another version
number_is_other : (o : Option ℤ) → is_other o ≡ true → (n : ℤ) × (o ≡ Some n) × (n ≢ pos 1) × (n ≢ pos 2)
number_is_other None e = absurd cc
number_is_other (Some (pos k)) e = (
  pos k,
  refl,
  λ same. (let one : k ≡ 1 = cc in let clash = rw one at e in absurd cc),
  λ same. (let two : k ≡ 2 = cc in let clash = rw two at e in absurd cc),
)
number_is_other (Some (negsuc k)) e = (negsuc k, refl, (λ same. absurd cc), (λ same. absurd cc))

abbrev OtherWords : List Word → Type 0
OtherWords ws = (n : ℤ) × (ws ≡ Bare (codes "tvd") ∷ number_word n ∷ []) × IsNumber n × (n ≢ pos 1) × (n ≢ pos 2)

other_words : (ws : List Word) → other_version ws ≡ true → OtherWords ws
other_words [] e = absurd cc
other_words (a ∷ []) e = absurd cc
other_words (k ∷ v ∷ []) e =
    let h = both (is_bare_word k (codes "tvd")) (is_other (number_in v)) e in
    let n = number_is_other (number_in v) h.1 in
    let word = number_word_read v n.0 n.1 in
    let version : k ≡ Bare (codes "tvd") = word_is k (codes "tvd") h.0 in
    (n.0, ap (λ x. x ∷ v ∷ []) version ∙ ap (λ x. Bare (codes "tvd") ∷ x ∷ []) word.0, word.1, n.2, n.3)
other_words (a ∷ b ∷ c ∷ ds) e = absurd cc

abbrev first : ℕ → Progress
first next = record { next = next; stage = stages.Version; desc = nothing_read.desc }

other_here : (l : List ℕ) (ls : List (List ℕ)) (ws : List Word) → SpellsWords l ws → OtherWords ws → IsOtherVersion (l ∷ ls)
other_here l ls ws spells h = record { before = []; line = l; after = ls; number = h.0; parts = refl; skipped = tt; words = rw (← h.1) spells; fits = h.2; other = (h.3, h.4) }

other_later : (l : List ℕ) (ls : List (List ℕ)) → SpellsWords l [] → IsOtherVersion ls → IsOtherVersion (l ∷ ls)
other_later l ls spells h = record { before = l ∷ h.before; line = h.line; after = h.after; number = h.number; parts = ap (λ x. l ∷ x) h.parts; skipped = (spells, h.skipped); words = h.words; fits = h.fits; other = h.other }

other_if : (n next : ℕ) (l : List ℕ) (ls : List (List ℕ)) (w : Word) (ws : List Word) (b : Bool) → line_words l ≡ Some (w ∷ ws) → other_version (w ∷ ws) ≡ b → went n ls (step_if b (description_line_taken (first next) (w ∷ ws))) ≡ Other → IsOtherVersion (l ∷ ls)
other_if n next l ls w ws true el eb e = other_here l ls (w ∷ ws) (line_spelled l (w ∷ ws) el) (other_words (w ∷ ws) eb)
other_if n next l ls w ws false el eb e = absurd (never_after n ls (description_line_taken (first next) (w ∷ ws)) (λ q eq. never_other ls (n + 1) q (moves (first next) (w ∷ ws) q eq refl)) e)

other_by : (n next : ℕ) (l : List ℕ) (ls : List (List ℕ)) (o : Option (List Word)) → line_words l ≡ o → (description_from (n + 1) (first next) ls ≡ Other → IsOtherVersion ls) → went n ls (words_step (first next) o) ≡ Other → IsOtherVersion (l ∷ ls)
other_by n next l ls None el later e = absurd cc
other_by n next l ls (Some []) el later e = other_later l ls (line_spelled l [] el) (later e)
other_by n next l ls (Some (w ∷ ws)) el later e = other_if n next l ls w ws (other_version (w ∷ ws)) el refl e

reading_other : (lines : List (List ℕ)) (n next : ℕ) → description_from n (first next) lines ≡ Other → IsOtherVersion lines
reading_other [] n next e = absurd cc
reading_other (l ∷ ls) n next e = other_by n next l ls (line_words l) refl (reading_other ls (n + 1) next) e

other_if_not : (b : Bool) (k m : ℕ) → k == m ≡ b → pos k ≢ pos m → not b ≡ true
other_if_not true k m e h = absurd (h (ap pos (eqb-true k m e)))
other_if_not false k m e h = refl

other_number : (n : ℤ) → n ≢ pos 1 → n ≢ pos 2 → is_other (Some n) ≡ true
other_number (pos k) one two = rw (other_if_not (k == 1) k 1 refl one, other_if_not (k == 2) k 2 refl two) refl
other_number (negsuc k) one two = refl

other_read : (before : List (List ℕ)) (n : ℕ) (line : List ℕ) (after : List (List ℕ)) (number : ℤ) → AllByRecursion (λ l. SpellsWords l []) before → SpellsWords line (Bare (codes "tvd") ∷ number_word number ∷ []) → IsNumber number → number ≢ pos 1 → number ≢ pos 2 → description_from n nothing_read (before ++ (line ∷ after)) ≡ Other
other_read [] n line after number skipped words fits one two =
    let ws : List Word = Bare (codes "tvd") ∷ number_word number ∷ [] in
    let is : is_other (number_in (number_word number)) ≡ true = ap is_other (read_number_word number fits) ∙ other_number number one two in
    ap (λ o. went n after (words_step nothing_read o)) (spelled_line line ws words) ∙ ap (λ b. went n after (step_if b (description_line_taken nothing_read ws))) is
other_read (l ∷ before) n line after number skipped words fits one two =
    ap (λ o. went n (before ++ (line ∷ after)) (words_step nothing_read o)) (spelled_line l [] skipped.0) ∙ other_read before (n + 1) line after number skipped.1 words fits one two

pub other_reads : (lines : List (List ℕ)) → IsOtherVersion lines → description_from 1 nothing_read lines ≡ Other
other_reads lines h = rw h.parts (other_read h.before 1 h.line h.after h.number h.skipped h.words h.fits h.other.0 h.other.1)

-- ---- the answers of `parse`

pub refused : (text : List ℕ) (fault : LangFault) → length text ≤ 262144 → DescriptionStopsAt fault (description_outcome text) → RefusesToParse text fault
refused text NoMemory short h = tt
refused text (Syntax line) short h = (short, first_fault (lines_of text) line h, λ other. (let clash : Fault line ≡ Other = sym h ∙ other_reads (lines_of text) other in absurd cc))
refused text TooLong short h = absurd h
refused text Version short h = (short, reading_other (lines_of text) 1 1 h)

pub all_refused : (r : Result Desc LangFault) (text : List ℕ) → length text ≤ 262144 → IfErr r (λ fault. DescriptionStopsAt fault (description_outcome text)) → IfErr r (λ fault. RefusesToParse text fault)
all_refused (Ok d) text short h = tt
all_refused (Err fault) text short h = refused text fault short h

pub gives : (r : Result Desc LangFault) (text : List ℕ) (d : Desc) → IfOk r (λ found. description_outcome text ≡ Value found) → IfErr r (λ fault. DescriptionStopsAt fault (description_outcome text)) → Spells text d → GivesDescription r d
gives (Ok found) text d ok err spelled = let same : Value found ≡ Value d = sym ok ∙ spelled_read text d spelled.lines in cc
gives (Err NoMemory) text d ok err spelled = tt
gives (Err (Syntax line)) text d ok err spelled = let clash : Fault line ≡ Value d = sym err ∙ spelled_read text d spelled.lines in absurd cc
gives (Err TooLong) text d ok err spelled = err
gives (Err Version) text d ok err spelled = let clash : Other ≡ Value d = sym err ∙ spelled_read text d spelled.lines in absurd cc
