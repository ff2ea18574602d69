-- What no certificate is written for, and what isn't accepted.
use Rattle.std.proofs.Common.{refl, ◌≡◌, ℕ, List, Result, Ok, Err, IsErrAnd}
use Rattle.tv_lang.specs.Faults.{Spells}
use Rattle.tv_model.specs.declared.desc.Desc.{Desc}
use Rattle.tv_program.specs.declared.accept_fault.AcceptFault.{AcceptFault}
use Rattle.tv_program.specs.declared.accept_fault.AcceptFault.TheVariants as accepts
use Rattle.tv_program.specs.declared.check_fault.CheckFault.{CheckFault}
use Rattle.tv_program.specs.declared.check_fault.CheckFault.TheVariants as checks
use Rattle.tv_check.specs.declared.desc_fault.DescFault.{DescFault}
use Rattle.tv_check.specs.declared.desc_fault.DescFault.TheVariants as descs
use Rattle.tv_program.specs.CheckRun.{AcceptsTo, ChecksTo, Fit, accepted, certificate_text}
use Rattle.tv_program.specs.Conversions.{desc_checked}
use Rattle.tv_check.specs.Refusals.{IsFaulty}
use Rattle.tv_program.specs.Reading.{IsSoundText}
use Rattle.tv_io.specs.Writer.{Cuts, Seen}

-- ---- checking

desc_checked-ChecksTo : (T : Type 0) (text : List ℕ) (seen : Seen) (d : Desc) → Spells text d → (fault : DescFault) → IsFaulty d fault → ChecksTo {T = T} text seen seen (Err (desc_checked fault))
desc_checked-ChecksTo T text seen d spelled descs.NoMemory is = refl
desc_checked-ChecksTo T text seen d spelled (descs.Faults list) is = (d, spelled, is, refl)

module _ {T : Type 0} (text : List ℕ) where
  -- faults were found
  pub faulty-ChecksTo : (seen : Seen) (d : Desc) → Spells text d → (fault : DescFault) → IsFaulty d fault → (r : Result T CheckFault) → IsErrAnd r (λ told. told ≡ desc_checked fault) → ChecksTo text seen seen r
  faulty-ChecksTo seen d spelled fault is (Ok x) told = absurd told
  faulty-ChecksTo seen d spelled fault is (Err other) told = rw told (desc_checked-ChecksTo T text seen d spelled fault is)

  -- memory ran out
  pub memory-ChecksTo : (seen : Seen) (r : Result T CheckFault) → IsErrAnd r (λ told. told ≡ checks.NoMemory) → ChecksTo text seen seen r
  memory-ChecksTo seen (Ok x) told = absurd told
  memory-ChecksTo seen (Err other) told = rw told refl

  -- the writer failed
  pub cut-ChecksTo : (old new : Seen) (d : Desc) → IsSoundText text d → (written : List ℕ) → written ≡ certificate_text d → Cuts old new written → (r : Result T CheckFault) → IsErrAnd r (λ told. told ≡ checks.Write) → ChecksTo text old new r
  cut-ChecksTo old new d sound written same cut (Ok x) told = absurd told
  cut-ChecksTo old new d sound written same cut (Err other) told = rw told (d, sound, rw same at cut)

-- ---- accepting

-- the writer failed
pub cut-AcceptsTo : {T : Type 0} (text written : List ℕ) (old new : Seen) → Fit text written → Cuts old new accepted → (r : Result T AcceptFault) → IsErrAnd r (λ told. told ≡ accepts.Write) → AcceptsTo text written old new r
cut-AcceptsTo text written old new fit cut (Ok x) told = absurd told
cut-AcceptsTo text written old new fit cut (Err other) told = rw told (fit, cut)
