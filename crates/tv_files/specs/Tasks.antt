-- What a task on files comes to.
use Rattle.std.specs.Prelude.{◌≡◌, ℕ, List, [], ◌∷◌, ◌++◌, IsNone, Result, codes}
use Rattle.tv_lang.specs.declared.description.LangFault.{LangFault}
use Rattle.tv_lang.specs.Faults.{RefusesToParse, Spells}
use Rattle.tv_model.specs.declared.desc.Desc.{Desc}
use Rattle.tv_io.specs.Reader.{Given}
use Rattle.tv_io.specs.Reading.{BreaksOff}
use Rattle.tv_io.specs.Writer.{Cuts, Seen, Takes}
use Rattle.tv_play.specs.Playing.{Ports}
use Rattle.tv_play.specs.declared.parting.Parting.{Parting}
use Rattle.tv_program.specs.declared.accept_fault.AcceptFault.{AcceptFault}
use Rattle.tv_program.specs.declared.check_fault.CheckFault.{CheckFault}
use Rattle.tv_program.specs.declared.trouble.Trouble.{Trouble}
use Rattle.tv_program.specs.declared.trouble.Trouble.TheVariants.{NoMemory, Read, Write}
use Rattle.tv_program.specs.declared.run_fault.RunFault.{RunFault}
use Rattle.tv_program.specs.CheckRun.{AcceptsTo, ChecksTo}
use Rattle.tv_program.specs.Conversions.{accept_told, check_told, lang_told}
use Rattle.tv_program.specs.Playing.{RunsTo}
use Rattle.tv_program.specs.Terminal.{PlaysText}
use Rattle.tv_terminal.specs.declared.colour.Colours.{Colours}
use Rattle.tv_files.specs.declared.done.Done.{Done}
use Rattle.tv_files.specs.declared.done.Done.TheVariants.{Whole}
use Rattle.tv_files.specs.Ends.{End, done_of_play, end_as, end_of_run}
use Rattle.tv_files.specs.Ends.End.{ended, faulted}
use Rattle.tv_files.specs.Files.{IsFileOf, IsFileText, Known, LeavesFiles, Opens, longest}

-- the task ended at a file that can't be opened, the last one that was asked for, or because memory ran out; files are left
-- as they were
pub data IsUnopened (files after : Known) (opened : List (List ℕ)) (path : List ℕ) (end : End) : Type 0 where
  memory : LeavesFiles files after → end ≡ faulted NoMemory path → IsUnopened files after opened path end
  missing : Opens files after opened → IsNone (files.contents path) → end ≡ faulted Read path
      → IsUnopened files after opened path end

-- the text of an open file isn't there: a call of its reader failed, or memory ran out
pub data IsUngiven (limit : ℕ) (old new : Given) (path : List ℕ) (end : End) : Type 0 where
  memory : end ≡ faulted NoMemory path → IsUngiven limit old new path end
  broken : BreaksOff limit old new → end ≡ faulted Read path → IsUngiven limit old new path end

-- a call of the file's reader failed before its text was read
pub record BreaksOffIn (limit : ℕ) (files : Known) (path : List ℕ) : Type 0 where
  pub reader : Given
  pub left : Given
  pub file : IsFileOf files path reader
  pub breaks : BreaksOff limit reader left

-- the task ended at a file that can't be opened, or can't be read to its end
pub data IsUnread (limit : ℕ) (files after : Known) (opened : List (List ℕ)) (path : List ℕ)
    (end : End) : Type 0 where
  unopened : IsUnopened files after opened path end → IsUnread limit files after opened path end
  broken : Opens files after opened → BreaksOffIn limit files path → end ≡ faulted Read path
      → IsUnread limit files after opened path end

-- the file was opened and gave the text
pub record GivesText (limit : ℕ) (files after : Known) (opened : List (List ℕ)) (path : List ℕ)
    (text : List ℕ) : Type 0 where
  pub opens : Opens files after opened
  pub text_of : IsFileText limit files path text

-- a task on one file: the file is opened, and what follows of its text is by `comes`
pub data OnFile (comes : (text : List ℕ) → Type 0) (files after : Known) (file : List ℕ) (old new : Seen)
    (end : End) : Type 0 where
  unread : IsUnread longest files after (file ∷ []) file end → new ≡ old
      → OnFile comes files after file old new end
  done : (text : List ℕ) → GivesText longest files after (file ∷ []) file text → comes text
      → OnFile comes files after file old new end

-- a task that ends before the file beside the description is looked for: the description can't be read, or it
-- is refused
pub data EndsFirst (refuses : (text : List ℕ) → Trouble → Type 0) (files after : Known) (file : List ℕ)
    (end : End) : Type 0 where
  unread : IsUnread longest files after (file ∷ []) file end → EndsFirst refuses files after file end
  refused : (text : List ℕ) (fault : Trouble) → GivesText longest files after (file ∷ []) file text
      → refuses text fault → end ≡ faulted fault file → EndsFirst refuses files after file end

-- A task on a description and the file beside it, which is opened only once the description has passed, and read
-- to one byte past the limit
pub data OnFiles {S : Type 0} (limit : ℕ) (refuses : (text : List ℕ) → Trouble → Type 0)
    (passes : (text : List ℕ) → Type 0) (comes : (text written : List ℕ) → Type 0) (files after : Known)
    (file beside : List ℕ) (old new : S) (end : End) : Type 0 where
  first : EndsFirst refuses files after file end → new ≡ old
      → OnFiles limit refuses passes comes files after file beside old new end
  unread : (text : List ℕ) → IsFileText longest files file text → passes text
      → IsUnread limit files after (file ∷ beside ∷ []) beside end → new ≡ old
      → OnFiles limit refuses passes comes files after file beside old new end
  done : (text written : List ℕ) → IsFileText longest files file text → passes text
      → GivesText limit files after (file ∷ beside ∷ []) beside written → comes text written
      → OnFiles limit refuses passes comes files after file beside old new end

-- a description that was read, and what follows of its text
pub record HasRead (follows : (text : List ℕ) → Type 0) (files after : Known) (file : List ℕ) : Type 0 where
  pub text : List ℕ
  pub gives : GivesText longest files after (file ∷ []) file text
  pub follows_text : follows text

-- ---- a check

-- what `check` answers about the text, told as an end
abbrev pub ChecksAs : (file : List ℕ) → (old new : Seen) → End → (text : List ℕ) → Type 0
ChecksAs file old new end text =
    (r : Result (Unit {0}) CheckFault) × ChecksTo text old new r × (end ≡ end_as check_told file file r)

abbrev pub ChecksFile : (files after : Known) → (file : List ℕ) → (old new : Seen) → End → Type 0
ChecksFile files after file old new end =
    OnFile (ChecksAs file old new end) files after file old new end

-- ---- an acceptance

-- the text spells no description
abbrev pub IsUnspelled : (text : List ℕ) → Trouble → Type 0
IsUnspelled text fault =
    (unspelled : LangFault) × RefusesToParse text unspelled × (fault ≡ lang_told unspelled)

abbrev pub IsSpelledAs : Desc → (text : List ℕ) → Type 0
IsSpelledAs d text = Spells text d

abbrev pub IsSpelled : (text : List ℕ) → Type 0
IsSpelled text = (d : Desc) × IsSpelledAs d text

-- what `accept_files` answers about the texts, told as an end
abbrev pub AcceptsAs : (file certificate : List ℕ) → (old new : Seen) → End → (text written : List ℕ) → Type 0
AcceptsAs file certificate old new end text written =
    (r : Result (Unit {0}) AcceptFault) × AcceptsTo text written old new r
    × (end ≡ end_as accept_told file certificate r)

-- the certificate is looked for once the description is spelled
abbrev pub AcceptsFiles : (files after : Known) → (file certificate : List ℕ) → (old new : Seen) → End
    → Type 0
AcceptsFiles files after file certificate old new end =
    OnFiles longest IsUnspelled IsSpelled (AcceptsAs file certificate old new end) files after file
    certificate old new end

-- ---- a run

-- The description and its script, the files of these paths. Both are opened before anything is read, the
-- description first;
-- then the description is read, and what follows of its text and of the script, as it comes, is by `comes`.
pub data OnStream {S : Type 0} (comes : (text : List ℕ) (reader left : Given) → Type 0)
    (files after : Known) (file script : List ℕ) (old new : S) (end : End) : Type 0 where
  unopened : IsUnopened files after (file ∷ []) file end → new ≡ old
      → OnStream comes files after file script old new end
  beside : IsUnopened files after (file ∷ script ∷ []) script end → new ≡ old
      → OnStream comes files after file script old new end
  unread : IsUnread longest files after (file ∷ script ∷ []) file end → new ≡ old
      → OnStream comes files after file script old new end
  done : (text : List ℕ) (reader left : Given) → GivesText longest files after (file ∷ script ∷ []) file text
      → IsFileOf files script reader → comes text reader left
      → OnStream comes files after file script old new end

-- what `run` answers, told as an end; the views of a description may be refused only where they are mismade
abbrev pub RunsAs : (Mismade : Desc → Type 0) → (file script : List ℕ) → (old new : Seen) → End
    → (text : List ℕ) (reader left : Given) → Type 0
RunsAs Mismade file script old new end text reader left =
    (r : Result (Unit {0}) RunFault) × RunsTo Mismade (λ done s. Unit {0}) text reader left old new r
    × (end ≡ end_of_run file script r)

-- the description is read once the script is opened, and the script once the description's views are made
abbrev pub RunsFiles : (Mismade : Desc → Type 0) → (files after : Known) → (file script : List ℕ)
    → (old new : Seen) → End → Type 0
RunsFiles Mismade files after file script old new end =
    OnStream (RunsAs Mismade file script old new end) files after file script old new end

-- ---- in a terminal

-- what is told where the terminal can't be read
abbrev pub terminal : List ℕ
terminal = codes "standard input"

-- what `play` answers about the text, told as an end
abbrev pub PlaysAs : (Mismade : Desc → Type 0) → Colours → (file : List ℕ) → (old new : Ports) → Done → End
    → (text : List ℕ) → Type 0
PlaysAs Mismade colours file old new how end text =
    (r : Result Parting RunFault) × PlaysText Mismade colours text old new r
    × (how ≡ done_of_play r) × (end ≡ end_of_run file terminal r)

-- The description is read before the terminal is touched
pub data PlaysFile (Mismade : Desc → Type 0) (colours : Colours) (files after : Known) (file : List ℕ)
    (old new : Ports) (how : Done)
    (end : End) : Type 0 where
  unread : IsUnread longest files after (file ∷ []) file end → new ≡ old → how ≡ Whole
      → PlaysFile Mismade colours files after file old new how end
  played : (text : List ℕ) → GivesText longest files after (file ∷ []) file text
      → PlaysAs Mismade colours file old new how end text
      → PlaysFile Mismade colours files after file old new how end

-- ---- the version

-- the program's name and version were written
abbrev pub version : List ℕ
version = codes "tvdlg 1.0.0" ++ 10 ∷ []

pub data TellsVersion (old new : Seen) (end : End) : Type 0 where
  told : Takes old new version → end ≡ ended → TellsVersion old new end
  cut : Cuts old new version → end ≡ faulted Write [] → TellsVersion old new end
