-- What a run in a terminal comes to that is recorded in a file.
use Rattle.std.proofs.Common.{◌≡◌, ℕ, List, [], ◌∷◌, Result, Ok, Err, IsErrAnd, refl}
use Rattle.tv_io.specs.Writer.{Seen}
use Rattle.tv_model.specs.declared.desc.Desc.{Desc}
use Rattle.tv_play.specs.Playing.{Ports}
use Rattle.tv_terminal.specs.declared.colour.Colours.{Colours}
use Rattle.tv_files.specs.declared.done.Done.{Done}
use Rattle.tv_files.specs.declared.failure.Failure.{Failure}
use Rattle.tv_files.specs.Ends.{done_in, end_of, end_of_failure}
use Rattle.tv_files.specs.Files.{Known, longest}
use Rattle.tv_files.specs.Recording.{RecordsFile}
use Rattle.tv_files.specs.Recording.RecordsFile.{unread}
use Rattle.tv_files.specs.Tasks.{IsUnread}

-- the description wasn't read
pub unread-RecordsFile : (Mismade : Desc → Type 0) (IsTape : (path : List ℕ) (begun ended : Seen) → Type 0) (colours : Colours) (files after : Known) (file script : List ℕ) (ports : Ports) (failure : Failure) → IsUnread longest files after (file ∷ []) file (end_of_failure failure) → (r : Result Done Failure) → IsErrAnd r (λ told. told ≡ failure) → RecordsFile Mismade IsTape colours files after file script ports ports (done_in r) (end_of r)
unread-RecordsFile Mismade IsTape colours files after file script ports failure is (Ok how) told = absurd told
unread-RecordsFile Mismade IsTape colours files after file script ports failure is (Err other) told = rw told (unread is refl refl)
