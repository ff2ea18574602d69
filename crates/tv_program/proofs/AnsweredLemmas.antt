-- What answering a text comes to.
use Rattle.std.proofs.Common.{◌≡◌, ◌≢◌, ◌==◌, ◌∙◌, ◌∷◌, All, Bool, true, false, ℕ, length, List, [], Option, Some, None, Result, Ok, Err, IfOk, IfErr, IsErrAnd, is_err, is_ok, if◌then◌else◌, is_some, option_map, inl, inr, refl, subst, sym, arith}
use Rattle.std.proofs.lemmas.Bool.{eqb-true}
use Rattle.tv_answers.specs.declared.answers.Answers.{Answers}
use Rattle.tv_answers.specs.declared.reading.AnswersFault.{AnswersFault}
use Rattle.tv_answers.specs.declared.reading.AnswersFault.TheVariants as answers
use Rattle.tv_answers.specs.Filling.{filled}
use Rattle.tv_answers.specs.ReadLogs.{RefusesAnswers}
use Rattle.tv_model.specs.declared.desc.Desc.{Desc}
use Rattle.tv_program.specs.declared.answer_fault.AnswerFault.{AnswerFault}
use Rattle.tv_program.specs.declared.answer_fault.AnswerFault.TheVariants as fails
use Rattle.tv_program.specs.declared.answer_fault.Ending.{Ending}
use Rattle.tv_program.specs.declared.run_fault.RunFault.{RunFault}
use Rattle.tv_program.specs.declared.run_fault.RunFault.TheVariants as unrun
use Rattle.tv_program.specs.AnswerFaults.{answers_told}
use Rattle.tv_program.specs.Answering.{AnsweredRun, AnswersTo, AreRuns, IsFitLog, IsSafeAfter, IsUnbegun, IsUnrun, RefusesRun, after_end, begun_text, endings_of}
use Rattle.tv_program.specs.AnswerRuns.{EndsAll}
use Rattle.tv_program.specs.Filling.{Written}
use Rattle.tv_program.specs.Reading.{IsSoundText}
use Rattle.tv_program.proofs.RunLemmas.{lawful}
use Rattle.tv_lawful.specs.Laws.{FitByLaws}
use Rattle.tv_laws.specs.Runs.IsNext.{by_command}
use Rattle.tv_machine.specs.Session.Start.{start}
use Rattle.std.proofs.lemmas.List.Elements.{All-weaker}

-- ---- results

pub IfOk-more : {T E : Type 0} (P Q : T → Type 0) (r : Result T E) → ((x : T) → P x → Q x) → IfOk r P → IfOk r Q
IfOk-more P Q (Ok x) more holds = more x holds
IfOk-more P Q (Err e) more holds = tt

pub IfErr-more : {T E : Type 0} (P Q : E → Type 0) (r : Result T E) → ((e : E) → P e → Q e) → IfErr r P → IfErr r Q
IfErr-more P Q (Ok x) more holds = tt
IfErr-more P Q (Err e) more holds = more e holds

-- a fault that is handed on
pub IfErr-told : {T E : Type 0} (P : E → Type 0) (fault : E) → P fault → (r : Result T E) → IsErrAnd r (λ told. told ≡ fault) → IfErr r P
IfErr-told P fault holds (Ok x) told = absurd told
IfErr-told P fault holds (Err other) told = rw told holds

pub is_some-map : {A B : Type 0} (f : A → B) (x : Option A) → is_some (option_map f x) ≡ is_some x
is_some-map f (Some a) = refl
is_some-map f None = refl

-- ---- runs

-- a run of a sound description is safe after the end
safe_after : (text : List ℕ) (run : AnsweredRun) → IsSoundText text run.desc → IsSafeAfter run
safe_after text run read =
    let fit : FitByLaws run.desc = (lawful text run.desc read).fit in
    fit.safe (after_end run).state (fit.runs (start run.desc) (after_end run).state fit.starts (by_command run.ending.command.0 refl))

-- so are all that are begun
all_safe : (d : Desc) {endings : List Ending} (runs : List AnsweredRun) → AreRuns d endings runs → All IsSafeAfter runs
all_safe d runs begun =
    All-weaker (λ run. IsSoundText (begun_text d run.ending.dialog) run.desc) IsSafeAfter
    (λ run read. safe_after (begun_text d run.ending.dialog) run read) runs begun.begun

-- ---- what it comes to

module _ (Mismade : Desc → Type 0) (name : List ℕ) (d : Desc) (written : List ℕ) where
  unread : (seen : Written) (fault : AnswersFault) → RefusesAnswers d written fault → AnswersTo Mismade name d written seen seen (Err (answers_told fault))
  unread seen answers.NoMemory refuses = (tt, refl)
  unread seen (answers.Syntax line) refuses = ((refuses, λ same. absurd cc), refl)
  unread seen answers.TooLong refuses = ((refuses, λ same. absurd cc), refl)

  -- the answers can't be read
  pub unread-AnswersTo : (seen : Written) (fault : AnswersFault) → RefusesAnswers d written fault → (r : Result (Unit {0}) AnswerFault) → IsErrAnd r (λ told. told ≡ answers_told fault) → AnswersTo Mismade name d written seen seen r
  unread-AnswersTo seen fault refuses (Ok x) told = absurd told
  unread-AnswersTo seen fault refuses (Err other) told = rw told (unread seen fault refuses)

  -- memory ran out
  pub no_memory-AnswersTo : (seen : Written) (r : Result (Unit {0}) AnswerFault) → IsErrAnd r (λ told. told ≡ fails.Run unrun.NoMemory) → AnswersTo Mismade name d written seen seen r
  no_memory-AnswersTo seen (Ok x) told = absurd told
  no_memory-AnswersTo seen (Err other) told = rw told (tt, refl)

  module _ (a : Answers) (fit : IsFitLog d written a) where
    unbegun : (fault : RunFault) → IsUnbegun Mismade (filled d a) (endings_of d a) fault → IsUnrun Mismade d written fault
    unbegun unrun.NoMemory refuses = tt
    unbegun (unrun.Lang fault) refuses = (a, fit, refuses)
    unbegun (unrun.Faults list) refuses = (a, fit, refuses)
    unbegun unrun.View refuses = (a, fit, refuses)
    unbegun (unrun.Script fault) refuses = (a, fit, refuses)
    unbegun unrun.Read refuses = (a, fit, refuses)
    unbegun unrun.Write refuses = (a, fit, refuses)
    unbegun unrun.Tape refuses = (a, fit, refuses)

    -- a run can't begin
    pub unbegun-AnswersTo : (seen : Written) (full : Desc) (endings : List Ending) → full ≡ filled d a → endings ≡ endings_of d a → (fault : RunFault) → IsUnbegun Mismade full endings fault
        → (r : Result (Unit {0}) AnswerFault) → IsErrAnd r (λ told. told ≡ fails.Run fault) → AnswersTo Mismade name d written seen seen r
    unbegun-AnswersTo seen full endings whole all fault refuses (Ok x) told = absurd told
    unbegun-AnswersTo seen full endings whole all fault refuses (Err other) told =
        rw told (unbegun fault (subst (λ (x : Desc). IsUnbegun Mismade x (endings_of d a) fault) whole (subst (λ (xs : List Ending). IsUnbegun Mismade full xs fault) all refuses)), refl)

    ends : (old new : Written) (runs : List AnsweredRun) → AreRuns (filled d a) (endings_of d a) runs → new.told ≡ old.told → (r : Result (Unit {0}) AnswerFault) → EndsAll runs old.out new.out r → AnswersTo Mismade name d written old new r
    ends old new runs begun untold (Ok x) came = record { answers = a; runs = runs; fit = fit; begun = begun; safe = all_safe (filled d a) runs begun; logs = came.0; untold = untold; comes = came.1 }
    ends old new runs begun untold (Err (fails.Run fault)) came = absurd came
    ends old new runs begun untold (Err (fails.Answers fault)) came = absurd came
    ends old new runs begun untold (Err fails.Misfits) came = absurd came
    ends old new runs begun untold (Err fails.NoAnswers) came = absurd came
    ends old new runs begun untold (Err (fails.Disabled ending)) came = record { answers = a; runs = runs; fit = fit; begun = begun; safe = all_safe (filled d a) runs begun; logs = came.0; untold = untold; comes = came.1 }
    ends old new runs begun untold (Err (fails.Refused ending)) came = record { answers = a; runs = runs; fit = fit; begun = begun; safe = all_safe (filled d a) runs begun; logs = came.0; untold = untold; comes = came.1 }
    ends old new runs begun untold (Err fails.Write) came = record { answers = a; runs = runs; fit = fit; begun = begun; safe = all_safe (filled d a) runs begun; logs = came; untold = untold; comes = tt }

    -- the runs were gone through
    pub ends-AnswersTo : (old new : Written) (full : Desc) (endings : List Ending) → full ≡ filled d a → endings ≡ endings_of d a → (runs : List AnsweredRun) → AreRuns full endings runs
        → new.told ≡ old.told → (r : Result (Unit {0}) AnswerFault) → EndsAll runs old.out new.out r → AnswersTo Mismade name d written old new r
    ends-AnswersTo old new full endings whole all runs begun untold r came =
        ends old new runs (subst (λ (x : Desc). AreRuns x (endings_of d a) runs) whole (subst (λ (xs : List Ending). AreRuns full xs runs) all begun)) untold r came

-- ---- lists

pub none-is : {X : Type 0} (xs : List X) → true ≡ (length xs == 0) → xs ≡ []
none-is [] e = refl
none-is (x ∷ xs) e = absurd (omega (arith, eqb-true (length (x ∷ xs)) 0 (sym e)))

some-is : {X : Type 0} (xs : List X) → false ≡ (length xs == 0) → xs ≢ []
some-is [] e = absurd cc
some-is (x ∷ xs) e = λ same. absurd cc

-- the same by a count of them
pub some-counted : {X : Type 0} (xs : List X) (n : ℕ) → n ≡ length xs → false ≡ (n == 0) → xs ≢ []
some-counted xs n same e = some-is xs (subst (λ (k : ℕ). false ≡ (k == 0)) same e)

pub same-some : {X : Type 0} (xs ys : List X) → xs ≡ ys → xs ≢ [] → ys ≢ []
same-some xs ys same some = λ none. some (same ∙ none)

-- what a call gives where it didn't fail
pub ok-given : {T E A : Type 0} (r : Result T E) (now given other : A) → false ≡ is_err r → now ≡ (if is_ok r then given else other) → now ≡ given
ok-given (Ok x) now given other e so = so
ok-given (Err x) now given other e so = absurd cc
