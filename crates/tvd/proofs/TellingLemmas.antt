-- From what a call of the program comes to, to what the library tells.
use Rattle.std.proofs.Common.{◌≡◌, if◌then◌else◌, ℕ, Bool, true, false, not, List, [], Result, Ok, Err, refl, subst}
use Rattle.std.specs.Prelude.{IsUtf8}
use Rattle.tv_files.proofs.EndLemmas.{EndsWith-weaker}
use Rattle.tv_files.specs.EndsWith.{EndsWith}
use Rattle.tv_files.specs.Files.{Known}
use Rattle.tv_files.specs.World.{KnownWorld}
use Rattle.tv_files.specs.declared.no_task.NoTask.{NoTask}
use Rattle.tv_files.specs.declared.no_task.NoTask.TheVariants.{NoMemory, Usage}
use Rattle.tv_files.specs.declared.task.Task.{Task}
use Rattle.tv_main.specs.Asking.{IsAskedBy}
use Rattle.tv_memory.specs.Closed.{album_of, input_of}
use Rattle.tv_io.specs.Rooms.{Shows}
use Rattle.tv_io.specs.Writer.{Seen}
use Rattle.tv_memory.specs.Gathered.{IsShown, gathered}
use Rattle.tv_memory.specs.Words.{IsBareUsage}
use Rattle.tv_memory.specs.Shelves.{files_of}
use Rattle.tvd.specs.Telling.{Tells, answer_of, begun}

-- words that are a usage fault ask for nothing else
pub bare : {W : Type 0} (words : Result W NoTask) (asked : Result Task NoTask) → IsAskedBy words asked → IsBareUsage words
    → IsBareUsage asked
bare (Ok words) asked asks usage = absurd usage
bare (Err NoMemory) asked asks usage = absurd usage
bare (Err (Usage text)) asked asks usage = rw asks usage

-- what a stream gathered, and where it is shown
pub shown : (items : List ℕ) (failures : ℕ) {text old new : List ℕ} {used : ℕ} → text ≡ items → Shows old new used text
    → IsShown (gathered items failures) old new used
shown items failures {text} {old} {new} {used} is shows =
    record { text = items; failures = failures; is = refl; shows = subst (Shows old new used) is shows }

pub lost : (is_none : Bool) (status : ℕ) → not is_none ≡ true → 3 ≡ (if is_none then status else 3)
lost true status e = absurd cc
lost false status e = refl

pub kept : (is_none : Bool) (status : ℕ) → not is_none ≡ false → status ≡ (if is_none then status else 3)
kept true status e = refl
kept false status e = absurd cc

-- the world of the call is the one that begins
pub begun-is : {name text name2 text2 n t n2 t2 out err : List ℕ} {album heard out_failures err_failures : ℕ} {is_waiting is_ended : Bool}
    → n ≡ name → t ≡ text → n2 ≡ name2 → t2 ≡ text2 → album ≡ 0 → is_waiting ≡ true → heard ≡ 0 → is_ended ≡ false
    → out ≡ [] → out_failures ≡ 0 → err ≡ [] → err_failures ≡ 0
    → record {
      files = files_of n t n2 t2;
      album = album_of album;
      heard = input_of is_waiting heard is_ended;
      out = gathered out out_failures;
      err = gathered err err_failures;
    } ≡ begun (files_of name text name2 text2)
begun-is a b c d e f g h i j k l = rw (a, b, c, d, e, f, g, h, i, j, k, l) refl

pub Tells-of : {W : Type 0} {T : (path : List ℕ) (begun ended : Seen) → Type 0} (words : List ℕ) (files : Known) (read : Result W NoTask) (before after : KnownWorld) (status answer : ℕ)
    {out out_after err err_after : List ℕ} {out_used err_used : ℕ}
    → (¬ (IsUtf8 words) → IsBareUsage read) → before ≡ begun files
    → ((asked : Result Task NoTask) × IsAskedBy read asked × EndsWith (λ _. ⊥) T asked before after status)
    → answer ≡ answer_of after.err.failures status → IsShown after.out out out_after out_used
    → IsShown after.err err err_after err_used → ((path : List ℕ) (begun ended : Seen) → T path begun ended → ⊥)
    → Tells words files answer out out_after out_used err err_after err_used
Tells-of {T = T} words files read before after status answer usage begins ends answers written told none = record {
  asked = ends.0;
  no_text = λ p. bare read ends.0 ends.1 (usage p);
  after = after;
  status = status;
  ends = EndsWith-weaker (λ _. ⊥) (λ _. ⊥) (λ text d sound mismade. mismade) none ends.0 (begun files) after status
      (subst (λ (w : KnownWorld). EndsWith (λ _. ⊥) T ends.0 w after status) begins ends.2);
  answers = answers;
  written = written;
  told = told;
}
