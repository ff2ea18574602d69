-- What reading a script comes to.
use Rattle.std.specs.Prelude.{ℕ, Result, Ok, Err, Vec}
use Rattle.tv_io.specs.Reader.{Given}
use Rattle.tv_io.specs.Reading.{BreaksOff, IsRead}
use Rattle.tv_program.specs.declared.run_fault.RunFault.{RunFault}
use Rattle.tv_program.specs.declared.run_fault.RunFault.TheVariants.{NoMemory, Read}

-- the most bytes of a script
abbrev pub most_of_script : ℕ
most_of_script = 1048576

-- what reading a script comes to
abbrev pub ReadsScript : {A : Type 0} → (reader left : Given) → Result (Vec ℕ A) RunFault → Type 0
ReadsScript reader left (Ok text) = IsRead most_of_script reader left text.items
ReadsScript reader left (Err NoMemory) = Unit {0}
ReadsScript reader left (Err Read) = BreaksOff most_of_script reader left
ReadsScript reader left (Err _) = ⊥
