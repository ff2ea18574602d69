-- What words are read from bytes.
use Rattle.std.specs.Prelude.{◌≡◌, List, ℕ, [], IfErr, IsUtf8, Result, Ok, Err, string_bytes}
use Rattle.tv_files.specs.declared.no_task.NoTask.{NoTask}
use Rattle.tv_files.specs.declared.no_task.NoTask.TheVariants.{NoMemory, Usage}

-- only usage is told, without a text
abbrev pub IsBareUsage : {W : Type 0} → Result W NoTask → Type 0
IsBareUsage (Ok words) = ⊥
IsBareUsage (Err NoMemory) = ⊥
IsBareUsage (Err (Usage text)) = string_bytes text ≡ []

-- bytes that are UTF-8 are read, unless memory runs out; of others only usage is told
pub record ReadsWords {W : Type 0} (bytes : List ℕ) (words : Result W NoTask) : Type 0 where
  pub text : IsUtf8 bytes → IfErr words (λ fault. fault ≡ NoMemory)
  pub no_text : ¬ (IsUtf8 bytes) → IsBareUsage words
