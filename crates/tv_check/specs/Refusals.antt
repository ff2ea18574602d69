-- Why a description or its certificate is refused.
use Rattle.std.specs.Prelude.{◌≡◌, ◌≢◌, ℕ, ◌+◌, List, [], ◌∷◌, ◌++◌, take, slice_get, All, Result, Ok, Err}
use Rattle.tv_model.specs.declared.desc.Desc.{Desc}
use Rattle.tv_model.specs.declared.desc.Dialog.{Dialog}
use Rattle.tv_model.specs.declared.fault.Fault.{Fault}
use Rattle.tv_model.specs.Faults.{IsSound, faults_of}
use Rattle.tv_model.specs.Description.Certificates.{dialog_name, letters, tab_order}
use Rattle.tv_certificate.specs.declared.certificate.Certificate.{Certificate}
use Rattle.tv_certificate.specs.declared.certificate.Block.{Block}
use Rattle.tv_check.specs.declared.certification.CertifyFault.{CertifyFault}
use Rattle.tv_check.specs.declared.certification.CertifyFault.TheVariants as unmade
use Rattle.tv_check.specs.declared.desc_fault.DescFault.{DescFault}
use Rattle.tv_check.specs.declared.desc_fault.DescFault.TheVariants as faulty
use Rattle.tv_check.specs.declared.acceptance.Refusal.{Refusal}
use Rattle.tv_check.specs.declared.acceptance.Refusal.TheVariants as refusals
use Rattle.tv_check.specs.Certificates.{NamesOwner, NamesOwners, key_lines, tab_lines}

-- the list has the description's faults, and isn't empty
abbrev pub HasFaults : Desc → List Fault → Type 0
HasFaults d list = (list ≡ faults_of d) × (list ≢ [])

-- the description has faults, or memory ran out
abbrev pub IsFaulty : Desc → DescFault → Type 0
IsFaulty d faulty.NoMemory = Unit {0}
IsFaulty d (faulty.Faults list) = HasFaults d list

-- the first fault of a description, by number and then by line
abbrev pub IsFirstFault : Desc → Fault → Type 0
IsFirstFault d fault = (others : List Fault) × (faults_of d ≡ fault ∷ others)

-- the first place, counted from 1, at which two lists differ or just one of them has an item
pub record DifferFirst {A : Type 0} (xs ys : List A) (place : ℕ) : Type 0 where
  pub before : ℕ
  pub number : place ≡ before + 1
  pub alike : take before xs ≡ take before ys
  pub differ : slice_get xs before ≢ slice_get ys before

-- the first item of a list for which P doesn't hold
pub record IsFirstWithout {A : Type 0} (P : A → Type 0) (xs : List A) (x : A) : Type 0 where
  pub before : List A
  pub after : List A
  pub parts : xs ≡ before ++ x ∷ after
  pub passed : All P before
  pub stops : P x → ⊥

-- the first letter without its owners in the first dialog, in description order, that has one
abbrev pub IsFirstOwner : Desc → List Block → ℕ → Type 0
IsFirstOwner d blocks letter =
    (dialog : Dialog) × IsFirstWithout (NamesOwners d.version blocks) d.dialogs dialog
    × IsFirstWithout (NamesOwner d.version (key_lines blocks (dialog_name dialog)) dialog) letters letter

-- what a refusal says: the faults are looked at first, then the version, the tab lines and the key lines
abbrev pub RefusesToAccept : Desc → Certificate → Refusal → Type 0
RefusesToAccept d certificate refusals.NoMemory = Unit {0}
RefusesToAccept d certificate (refusals.Faulty fault) = IsFirstFault d fault
RefusesToAccept d certificate refusals.CertVersion = IsSound d × (certificate.version ≢ d.version)
RefusesToAccept d certificate (refusals.TabOrder place) =
    IsSound d × (certificate.version ≡ d.version)
    × DifferFirst (tab_lines certificate.blocks) (tab_order d) place
RefusesToAccept d certificate (refusals.Owner letter) =
    IsSound d × (certificate.version ≡ d.version) × (tab_lines certificate.blocks ≡ tab_order d)
    × IsFirstOwner d certificate.blocks letter

-- the answer is yes, unless memory ran out
abbrev pub Accepts : {A : Type 0} → Result A (Refusal × Desc) → Type 0
Accepts (Ok checked) = Unit {0}
Accepts (Err (refusals.NoMemory, d)) = Unit {0}
Accepts (Err (refusals.Faulty fault, d)) = ⊥
Accepts (Err (refusals.CertVersion, d)) = ⊥
Accepts (Err (refusals.TabOrder place, d)) = ⊥
Accepts (Err (refusals.Owner letter, d)) = ⊥

-- what it says where no certificate is made
abbrev pub RefusesToCertify : Desc → CertifyFault → Type 0
RefusesToCertify d unmade.NoMemory = Unit {0}
RefusesToCertify d (unmade.Faulty fault) = IsFirstFault d fault
