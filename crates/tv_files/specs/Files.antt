-- What is known of files, and what opening one comes to.
use Rattle.std.specs.Prelude.{◌≡◌, ◌≢◌, ℕ, ◌+◌, Bool, false, List, [], ◌∷◌, ◌++◌, take, Option, Some, None}
use Rattle.std.specs.Prelude.{IfSome, IsNone, Result, Ok, Err}
use Rattle.tv_io.specs.Reader.{Given}
use Rattle.tv_io.specs.Writer.{HasRisen, Seen}
use Rattle.tv_io.specs.declared.read_fault.ReadFault.{ReadFault}
use Rattle.tv_io.specs.declared.read_fault.ReadFault.TheVariants.{NoMemory, Read}
use Rattle.tv_program.specs.declared.album.AlbumFault.{AlbumFault}
use Rattle.tv_program.specs.declared.album.AlbumFault.TheVariants as unmade

-- the most bytes of a text that is read whole: a description, a certificate, or a script that is explained
abbrev pub longest : ℕ
longest = 262144

-- the same of answers
abbrev pub longest_log : ℕ
longest_log = 1048576

-- what is known of files: what the file of each path holds, at which paths there is none, the paths that were opened
-- so far and those that were made, in order, and the count of those that could not be
pub record Known : Type 0 where
  pub contents : List ℕ → Option (List ℕ)
  pub absent : List ℕ → Bool
  pub opened : Option (List (List ℕ))
  pub made : Option (List (List ℕ))
  pub failures : Option ℕ

-- where it is known which paths were opened, or made, these are the ones since then
abbrev pub Extends : Option (List (List ℕ)) → Option (List (List ℕ)) → List (List ℕ) → Type 0
Extends None new paths = Unit {0}
Extends (Some old) None paths = ⊥
Extends (Some old) (Some new) paths = new ≡ old ++ paths

-- where it is known how many files could not be made, there are no more of them
abbrev pub CountStays : Option ℕ → Option ℕ → Type 0
CountStays None new = Unit {0}
CountStays (Some old) None = ⊥
CountStays (Some old) (Some new) = new ≡ old

-- there are more
abbrev pub CountRises : Option ℕ → Option ℕ → Type 0
CountRises None new = Unit {0}
CountRises (Some old) None = ⊥
CountRises (Some old) (Some new) = HasRisen old new

-- no file was made, and they hold what they held
pub record LeavesFiles (old new : Known) : Type 0 where
  pub none : Extends old.made new.made []
  pub count : CountStays old.failures new.failures
  pub same : (path : List ℕ) → new.contents path ≡ old.contents path
  pub there : (path : List ℕ) → new.absent path ≡ old.absent path

-- these paths were opened, in this order, and the files left as they were
pub record Opens (old new : Known) (paths : List (List ℕ)) : Type 0 where
  pub order : Extends old.opened new.opened paths
  pub leaves : LeavesFiles old new

-- the file of the path is made, or can't be, and no other: they hold what they held
pub record TriesFile (old new : Known) (path : List ℕ) : Type 0 where
  pub none : Extends old.opened new.opened []
  pub made : Extends old.made new.made (path ∷ [])
  pub others : (other : List ℕ) → other ≢ path → new.contents other ≡ old.contents other

-- it was made
abbrev pub MakesFile : (old new : Known) → (path : List ℕ) → Type 0
MakesFile old new path = TriesFile old new path × CountStays old.failures new.failures

-- where the count is known, it rises only by a file for which there is no place
abbrev pub CountsFault : Option ℕ → Option ℕ → AlbumFault → Type 0
CountsFault None new fault = Unit {0}
CountsFault (Some old) new unmade.NoMemory = CountStays (Some old) new
CountsFault (Some old) new unmade.Write = CountRises (Some old) new

-- it wasn't
abbrev pub FailsToMake : (old new : Known) → (path : List ℕ) → AlbumFault → Type 0
FailsToMake old new path fault = TriesFile old new path × CountsFault old.failures new.failures fault

-- by the answer of the call: the file that was made is the one at the path
abbrev pub MakesAs : {M : Type 0} → (M → (path : List ℕ) → Type 0) → (old new : Known) → (path : List ℕ)
    → Result M AlbumFault → Type 0
MakesAs IsMadeAt old new path (Ok file) = MakesFile old new path × IsMadeAt file path
MakesAs IsMadeAt old new path (Err fault) = FailsToMake old new path fault

-- what the file that was made at the path had taken when it was made, and what a file has later. A task has no file but the
-- one that it made, so the later one is what became of it
abbrev pub IsTapeOf : {M : Type 0} → (M → Seen) → (M → (path : List ℕ) → Type 0) → (path : List ℕ)
    → (begun ended : Seen) → Type 0
IsTapeOf {M} seen IsMadeAt path begun ended =
    (file : M) × (later : M) × IsMadeAt file path × (begun ≡ seen file) × (ended ≡ seen later)

-- the text is what the file of the path holds, but no more than one byte past the limit
abbrev pub IsFileText : (limit : ℕ) → Known → (path : List ℕ) → (text : List ℕ) → Type 0
IsFileText limit files path text = IfSome (files.contents path) (λ whole. text ≡ take (limit + 1) whole)

-- what is known of a file that was opened: it is there, and what it holds is left to be given, where that is known
pub record IsFileOf (files : Known) (path : List ℕ) (reader : Given) : Type 0 where
  pub there : files.absent path ≡ false
  pub left : IfSome (files.contents path) (λ whole. reader.left ≡ Some whole)
  pub going : reader.is_ended ≡ false
  pub unfailed : reader.failures ≡ 0

-- what opening a file comes to; one whose contents are known can be opened, unless memory runs out, and then files are
-- left as they were
abbrev pub OpensAs : {F : Type 0} → (F → Given) → (old new : Known) → (path : List ℕ) → Result F ReadFault
    → Type 0
OpensAs seen old new path (Ok file) = Opens old new (path ∷ []) × IsFileOf old path (seen file)
OpensAs seen old new path (Err Read) = Opens old new (path ∷ []) × IsNone (old.contents path)
OpensAs seen old new path (Err NoMemory) = LeavesFiles old new
