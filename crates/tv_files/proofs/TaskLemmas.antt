-- What tasks come to, by what each step of them came to.
use Rattle.std.proofs.Common.{◌≡◌, ℕ, List, [], ◌∷◌, Result, Ok, Err, IsErrAnd, ap, refl, subst}
use Rattle.tv_io.specs.Reader.{Given}
use Rattle.tv_io.specs.Reading.{IsRead}
use Rattle.tv_io.specs.Writer.{Seen}
use Rattle.tv_machine.specs.Run.{Session, started}
use Rattle.tv_model.specs.declared.desc.Desc.{Desc}
use Rattle.tv_play.specs.Pieces.{Heard}
use Rattle.tv_play.specs.Playing.{Ports}
use Rattle.tv_play.specs.declared.parting.Parting.{Parting}
use Rattle.tv_program.specs.declared.trouble.Trouble.{Trouble}
use Rattle.tv_program.specs.declared.run_fault.RunFault.{RunFault}
use Rattle.tv_program.specs.Playing.{RunsTo}
use Rattle.tv_program.specs.Terminal.{PlaysText}
use Rattle.tv_program.specs.Playing.RunsTo.{refused, unbegun, stopped, done as done_run}
use Rattle.tv_script.proofs.FeedLemmas.{comes_weaker}
use Rattle.tv_files.specs.declared.done.Done.{Done}
use Rattle.tv_files.specs.declared.failure.Failure.{Failure}
use Rattle.tv_files.specs.Ends.{End, done_in, end_of, end_of_failure}
use Rattle.tv_files.specs.Files.{IsFileOf, Known, Opens, longest}
use Rattle.tv_files.specs.Tasks.{EndsFirst, GivesText, IsUnread, OnFiles, OnStream, PlaysFile}
use Rattle.tv_files.specs.Tasks.OnFiles.{first, unread, done}
use Rattle.tv_files.specs.Tasks.OnStream.{done as done_both}
use Rattle.tv_files.specs.Tasks.PlaysFile.{unread as unread_file}
use Rattle.tv_terminal.specs.declared.colour.Colours.{Colours}
use Rattle.tv_files.proofs.FileLemmas.{Gives-then, IsFileOf-then, IsRead-Gives, IsUnread-then, Opens-both}

module _ {S : Type 0} (limit : ℕ) (refuses : (text : List ℕ) → Trouble → Type 0) (passes : (text : List ℕ) → Type 0) (files after : Known) (file beside : List ℕ) (seen : S) (failure : Failure) where
  -- the description wasn't read, or was refused
  pub first-OnFiles : {T : Type 0} (comes : End → (text written : List ℕ) → Type 0) → EndsFirst refuses files after file (end_of_failure failure) → (r : Result T Failure) → IsErrAnd r (λ told. told ≡ failure) → OnFiles limit refuses passes (comes (end_of r)) files after file beside seen seen (end_of r)
  first-OnFiles comes ends (Ok x) told = absurd told
  first-OnFiles comes ends (Err other) told = rw told (first ends refl)

  -- the file beside it wasn't read
  pub unread-OnFiles : {T : Type 0} (comes : End → (text written : List ℕ) → Type 0) (mid : Known) (text : List ℕ) → GivesText longest files mid (file ∷ []) file text → passes text → IsUnread limit mid after (beside ∷ []) beside (end_of_failure failure) → (r : Result T Failure) → IsErrAnd r (λ told. told ≡ failure) → OnFiles limit refuses passes (comes (end_of r)) files after file beside seen seen (end_of r)
  unread-OnFiles comes mid text gives passed ends (Ok x) told = absurd told
  unread-OnFiles comes mid text gives passed ends (Err other) told = rw told (unread text gives.text_of passed (IsUnread-then file beside gives.opens ends) refl)

-- both were read
pub done-OnFiles : {S : Type 0} (limit : ℕ) (refuses : (text : List ℕ) → Trouble → Type 0) (passes : (text : List ℕ) → Type 0) (comes : (text written : List ℕ) → Type 0) (files mid after : Known) (file beside : List ℕ) (old new : S) (end : End) (text written : List ℕ) → GivesText longest files mid (file ∷ []) file text → passes text → GivesText limit mid after (beside ∷ []) beside written → comes text written → OnFiles limit refuses passes comes files after file beside old new end
done-OnFiles limit refuses passes comes files mid after file beside old new end text written gives passed gives_beside came =
    done text written gives.text_of passed (Gives-then file beside gives.opens gives_beside) came

-- ---- runs

-- the description was read, and the script was performed as it came
pub done-OnStream : {S : Type 0} (comes : (text : List ℕ) (reader left : Given) → Type 0) (files mid after : Known) (file script : List ℕ) (old new : S) (end : End) (description description_left reader left : Given) (text : List ℕ) → Opens files mid (file ∷ []) → IsFileOf files file description → Opens mid after (script ∷ []) → IsFileOf mid script reader → IsRead longest description description_left text → comes text reader left → OnStream comes files after file script old new end
done-OnStream comes files mid after file script old new end description description_left reader left text opens is opened script_is read came =
    done_both text reader left (IsRead-Gives longest file description description_left (Opens-both file script opens opened) is text read) (IsFileOf-then file script opens script_is) came

-- an answer without its value
abbrev pub gone : {T E : Type 0} → Result T E → Result (Unit {0}) E
gone (Ok x) = Ok tt
gone (Err e) = Err e

-- what stands for the run after the script is of no matter
pub RunsTo-gone : {T : Type 0} (Mismade : Desc → Type 0) (Stands : T → Session → Type 0) (text : List ℕ) (reader left : Given) (old new : Seen) (r : Result T RunFault) → RunsTo Mismade Stands text reader left old new r → RunsTo Mismade (λ (done : Unit {0}) s. Unit {0}) text reader left old new (gone r)
RunsTo-gone Mismade Stands text reader left old new r (refused fault is untouched told) = refused fault is untouched (ap gone told)
RunsTo-gone Mismade Stands text reader left old new r (unbegun d fault read why untouched told) = unbegun d fault read why untouched (ap gone told)
RunsTo-gone Mismade Stands text reader left old new r (stopped d fault read comes told) = stopped d fault read comes (ap gone told)
RunsTo-gone Mismade Stands text reader left old new r (done_run d run read comes told) =
    done_run d tt read (comes_weaker (started d) reader left old new (Stands run) (λ s. Unit {0}) (λ s stands. tt) (Ok tt) comes) (ap gone told)

-- ---- in a terminal

-- the description wasn't read
pub unread-PlaysFile : (Mismade : Desc → Type 0) (colours : Colours) (files after : Known) (file : List ℕ) (ports : Ports) (failure : Failure) → IsUnread longest files after (file ∷ []) file (end_of_failure failure) → (r : Result Done Failure) → IsErrAnd r (λ told. told ≡ failure) → PlaysFile Mismade colours files after file ports ports (done_in r) (end_of r)
unread-PlaysFile Mismade colours files after file ports failure is (Ok how) told = absurd told
unread-PlaysFile Mismade colours files after file ports failure is (Err other) told = rw told (unread_file is refl refl)

-- what was played, as it stands once the streams are back
pub PlaysText-lent : (Mismade : Desc → Type 0) {colours : Colours} (text : List ℕ) (old : Ports) (input : Heard) (log log' screen screen' tape tape' : Seen) (r : Result Parting RunFault) → log ≡ log' → screen ≡ screen' → tape ≡ tape' → PlaysText Mismade colours text old (record { input = input; log = log; screen = screen; tape = tape }) r
    → PlaysText Mismade colours text old (record { input = input; log = log'; screen = screen'; tape = tape' }) r
PlaysText-lent Mismade {colours} text old input log log' screen screen' tape tape' r same alike kept p =
    subst (λ (x : Seen). PlaysText Mismade colours text old (record { input = input; log = log'; screen = screen'; tape = x }) r) kept
    (subst (λ (x : Seen). PlaysText Mismade colours text old (record { input = input; log = log'; screen = x; tape = tape }) r) alike
    (subst (λ (x : Seen). PlaysText Mismade colours text old (record { input = input; log = x; screen = screen; tape = tape }) r) same p))
