-- Runs that give dialogs their ends, one after the other, and what is written of them.
use Rattle.std.proofs.Common.{◌≡◌, ◌⊎◌, Bool, true, false, cond, ℕ, List, [], ◌∷◌, ◌++◌, Option, Some, map, Result, Ok, Err, IsErrAnd, refl, sym, ap, subst, ◌∙◌, append_assoc, inl, inr, arith}
use Rattle.std.specs.List.{Contains, filter_map, find, zip}
use Rattle.std.proofs.lemmas.List.{append-nil, map-append}
use Rattle.std.proofs.lemmas.List.Elements.{Contains-append_right}
use Rattle.std.specs.Prelude.{if◌then◌else◌}
use Rattle.tv_answers.specs.declared.answers.Answer.{Answer}
use Rattle.tv_io.proofs.PenLemmas.{Cuts-from_stopped, Puts-along, Puts-none, Puts-then, Takes-from_went_on}
use Rattle.tv_io.specs.declared.pen.Pen.{Pen}
use Rattle.tv_io.specs.Pen.{Puts, PutsBy}
use Rattle.tv_io.specs.Writer.{Seen}
use Rattle.tv_model.specs.declared.desc.Dialog.{Dialog}
use Rattle.tv_program.specs.declared.answer_fault.AnswerFault.{AnswerFault}
use Rattle.tv_program.specs.declared.answer_fault.AnswerFault.TheVariants as fails
use Rattle.tv_program.specs.declared.answer_fault.Ending.{Ending}
use Rattle.tv_program.specs.declared.answering.BegunRun.{BegunRun}
use Rattle.tv_program.specs.Answering.{AnsweredRun, ending_of, run_log, runs_log, stays_open, takes_end}
use Rattle.tv_program.specs.AnswerRuns.{AllEndBy, EndsAll, EndsBy, outcome_of, runs_of}

-- ---- ends

-- a dialog with its answer is looked at, and the others are left
pub more_ends : (ends more whole : List Ending) (dialogs others : List Dialog) (answers later : List Answer) (dialog : Dialog) (answer : Answer) (end : Option Ending)
    → dialogs ≡ dialog ∷ others → answers ≡ answer ∷ later → end ≡ ending_of (dialog, answer) → more ++ filter_map ending_of (zip others later) ≡ ends ++ filter_map ending_of (zip (dialog ∷ others) (answer ∷ later))
    → ends ++ filter_map ending_of (zip dialogs answers) ≡ whole → more ++ filter_map ending_of (zip others later) ≡ whole
more_ends ends more whole dialogs others answers later dialog answer end first second is pushed so =
    let along : ends ++ filter_map ending_of (zip dialogs answers) ≡ ends ++ filter_map ending_of (zip (dialog ∷ others) (answer ∷ later)) =
    ap (λ (ds : List Dialog). ends ++ filter_map ending_of (zip ds answers)) first ∙ ap (λ (xs : List Answer). ends ++ filter_map ending_of (zip (dialog ∷ others) xs)) second in
    pushed ∙ sym along ∙ so

-- none is left
pub all_ends : (ends whole : List Ending) (dialogs : List Dialog) (answers : List Answer) → (dialogs ≡ []) ⊎ (answers ≡ []) → ends ++ filter_map ending_of (zip dialogs answers) ≡ whole → ends ≡ whole
all_ends ends whole dialogs answers (inl none) so =
    sym (append-nil ends) ∙ sym (ap (λ (ds : List Dialog). ends ++ filter_map ending_of (zip ds answers)) none) ∙ so
all_ends ends whole [] answers (inr none) so = sym (append-nil ends) ∙ so
all_ends ends whole (dialog ∷ dialogs) answers (inr none) so =
    sym (append-nil ends) ∙ sym (ap (λ (xs : List Answer). ends ++ filter_map ending_of (zip (dialog ∷ dialogs) xs)) none) ∙ so

-- ---- runs

-- a dialog ends
pub log-goes_on : (run : AnsweredRun) (runs : List AnsweredRun) → stays_open run ≡ false → runs_log (run ∷ runs) ≡ run_log run ++ runs_log runs
log-goes_on run runs ended = ap (λ (b : Bool). run_log run ++ (if b then [] else runs_log runs)) ended

pub find-goes_on : (run : AnsweredRun) (runs : List AnsweredRun) → stays_open run ≡ false → find stays_open (run ∷ runs) ≡ find stays_open runs
find-goes_on run runs ended = ap (λ (b : Bool). cond b (Some run) (find stays_open runs)) ended

find-stops : (run : AnsweredRun) (runs : List AnsweredRun) → stays_open run ≡ true → find stays_open (run ∷ runs) ≡ Some run
find-stops run runs open_still = ap (λ (b : Bool). cond b (Some run) (find stays_open runs)) open_still

-- what is written after a run
abbrev rest_log : AnsweredRun → List AnsweredRun → List ℕ
rest_log run runs = if stays_open run then [] else runs_log runs

stopped-by : (s : Seen) (b : Bool) (x : List ℕ) → b ≡ true → PutsBy s b s b x
stopped-by s true x e = (refl, refl)
stopped-by s false x e = absurd cc

module _ {W : Type 0} {seen : W → Seen} where
  puts-stopped : {a : Pen W} → a.stopped ≡ true → (x : List ℕ) → Puts seen a a x
  puts-stopped {a} e x = record { how = stopped-by (seen a.out.now) a.stopped x e; same = refl }

  puts-rest : {a : Pen W} (run : AnsweredRun) (runs : List AnsweredRun) (fault : AnswerFault) → EndsBy run a.stopped (Err fault) → Puts seen a a (rest_log run runs)
  puts-rest {a} run runs (fails.Run unrun) ends = absurd ends
  puts-rest {a} run runs (fails.Answers unread) ends = absurd ends
  puts-rest {a} run runs fails.Misfits ends = absurd ends
  puts-rest {a} run runs fails.NoAnswers ends = absurd ends
  puts-rest {a} run runs (fails.Disabled ending) ends = Puts-along (sym (ap (λ (b : Bool). if b then [] else runs_log runs) ends.1)) Puts-none
  puts-rest {a} run runs (fails.Refused ending) ends = Puts-along (sym (ap (λ (b : Bool). if b then [] else runs_log runs) ends.1)) Puts-none
  puts-rest {a} run runs fails.Write ends = puts-stopped ends (rest_log run runs)

  -- a run that isn't followed by another
  pub puts-last : {a b c : Pen W} (front whole : List ℕ) (run : AnsweredRun) (runs : List AnsweredRun) (fault : AnswerFault) → EndsBy run c.stopped (Err fault)
      → Puts seen a b front → Puts seen b c (run_log run) → front ++ runs_log (run ∷ runs) ≡ whole → Puts seen a c whole
  puts-last front whole run runs fault ends before now so =
      Puts-along (append_assoc front (run_log run) (rest_log run runs) ∙ so) (Puts-then (Puts-then before now) (puts-rest run runs fault ends))

  -- by what the writer took
  pub EndsAll-of : {a b : Pen W} (runs : List AnsweredRun) → a.stopped ≡ false → Puts seen a b (runs_log runs) → (r : Result (Unit {0}) AnswerFault) → AllEndBy runs b.stopped r → EndsAll runs (seen a.out.now) (seen b.out.now) r
  EndsAll-of runs going puts (Ok x) ends = (Takes-from_went_on ends.0 puts, ends.1)
  EndsAll-of runs going puts (Err (fails.Run unrun)) ends = absurd ends
  EndsAll-of runs going puts (Err (fails.Answers unread)) ends = absurd ends
  EndsAll-of runs going puts (Err fails.Misfits) ends = absurd ends
  EndsAll-of runs going puts (Err fails.NoAnswers) ends = absurd ends
  EndsAll-of runs going puts (Err (fails.Disabled ending)) ends = (Takes-from_went_on ends.0 puts, ends.1)
  EndsAll-of runs going puts (Err (fails.Refused ending)) ends = (Takes-from_went_on ends.0 puts, ends.1)
  EndsAll-of runs going puts (Err fails.Write) ends = Cuts-from_stopped going ends puts

-- the run that isn't followed by another ends the whole
last-AllEndBy : (whole runs : List AnsweredRun) (run : AnsweredRun) (stopped : Bool) → find stays_open (run ∷ runs) ≡ find stays_open whole → (fault : AnswerFault) → EndsBy run stopped (Err fault) → AllEndBy whole stopped (Err fault)
last-AllEndBy whole runs run stopped found (fails.Run unrun) ends = absurd ends
last-AllEndBy whole runs run stopped found (fails.Answers unread) ends = absurd ends
last-AllEndBy whole runs run stopped found fails.Misfits ends = absurd ends
last-AllEndBy whole runs run stopped found fails.NoAnswers ends = absurd ends
last-AllEndBy whole runs run stopped found (fails.Disabled ending) ends =
    (ends.0, record { run = run; first = sym found ∙ find-stops run runs ends.1; same = ends.2; takes = ends.3 })
last-AllEndBy whole runs run stopped found (fails.Refused ending) ends =
    (ends.0, record { run = run; first = sym found ∙ find-stops run runs ends.1; same = ends.2; takes = ends.3 })
last-AllEndBy whole runs run stopped found fails.Write ends = ends

pub last-ends : (whole runs : List AnsweredRun) (run : AnsweredRun) (stopped : Bool) → find stays_open (run ∷ runs) ≡ find stays_open whole → (fault : AnswerFault) → EndsBy run stopped (Err fault)
    → (r : Result (Unit {0}) AnswerFault) → IsErrAnd r (λ told. told ≡ fault) → AllEndBy whole stopped r
last-ends whole runs run stopped found fault ends (Ok x) told = absurd told
last-ends whole runs run stopped found fault ends (Err other) told = rw told (last-AllEndBy whole runs run stopped found fault ends)

-- what comes of one end
pub outcome-EndsBy : (run : AnsweredRun) (allowed is_open unwritten : Bool) → takes_end run ≡ allowed → stays_open run ≡ is_open → EndsBy run unwritten (outcome_of run.ending allowed is_open unwritten)
outcome-EndsBy run allowed is_open true takes stays = refl
outcome-EndsBy run allowed false false takes stays = (refl, stays)
outcome-EndsBy run true true false takes stays = (refl, stays, refl, takes)
outcome-EndsBy run false true false takes stays = (refl, stays, refl, takes)

-- ---- runs that are begun

-- the end that is next is one of all
pub next-Contains : (front rest others all : List Ending) (ending : Ending) → rest ≡ ending ∷ others → front ++ rest ≡ all → Contains all ending
next-Contains front rest others all ending next so =
    subst (λ (xs : List Ending). Contains xs ending) (ap (λ (xs : List Ending). front ++ xs) (sym next) ∙ so)
    (Contains-append_right front (ending ∷ others) ending (0, omega arith, refl))

module _ {V : Type 0} where
  abbrev pub ending_in : BegunRun V → Ending
  ending_in run = run.ending

  -- a run more
  pub more-endings : (runs more : List (BegunRun V)) (run : BegunRun V) (rest others all : List Ending) → rest ≡ run.ending ∷ others → more ≡ runs ++ run ∷ [] → map ending_in runs ++ rest ≡ all → map ending_in more ++ others ≡ all
  more-endings runs more run rest others all next pushed so =
      ap (λ (rs : List (BegunRun V)). map ending_in rs ++ others) pushed
      ∙ ap (λ (es : List Ending). es ++ others) (map-append ending_in runs (run ∷ []))
      ∙ append_assoc (map ending_in runs) (run.ending ∷ []) others
      ∙ ap (λ (es : List Ending). map ending_in runs ++ es) (sym next) ∙ so

  ends-of : (runs : List (BegunRun V)) → map (λ (run : AnsweredRun). run.ending) (runs_of runs) ≡ map ending_in runs
  ends-of [] = refl
  ends-of (run ∷ runs) = ap (λ (es : List Ending). run.ending ∷ es) (ends-of runs)

  -- all runs
  pub all-endings : (runs : List (BegunRun V)) (rest all : List Ending) → rest ≡ [] → map ending_in runs ++ rest ≡ all → map (λ (run : AnsweredRun). run.ending) (runs_of runs) ≡ all
  all-endings runs rest all none so =
      ends-of runs ∙ sym (append-nil (map ending_in runs)) ∙ ap (λ (es : List Ending). map ending_in runs ++ es) (sym none) ∙ so

-- the same of the writer that was lent
pub EndsAll-lent : (runs : List AnsweredRun) (old new left : Seen) (r : Result (Unit {0}) AnswerFault) → new ≡ left → EndsAll runs old new r → EndsAll runs old left r
EndsAll-lent runs old new left r lent ends = subst (λ (x : Seen). EndsAll runs old x r) lent ends
