-- How a description's text is opened, and why it isn't.
use Rattle.std.specs.Prelude.{◌≡◌, ◌≢◌, ℕ, List, []}
use Rattle.tv_app.specs.Running.{Runs}
use Rattle.tv_app.specs.declared.app.App.{App}
use Rattle.tv_app.specs.declared.fault.OpenFault.{OpenFault}
use Rattle.tv_app.specs.declared.fault.OpenFault.TheVariants as unopened
use Rattle.tv_check.specs.Refusals.{HasFaults}
use Rattle.tv_check.specs.declared.desc_fault.DescFault.{DescFault}
use Rattle.tv_check.specs.declared.desc_fault.DescFault.TheVariants as faulty
use Rattle.tv_lang.specs.Faults.{RefusesToParse, Spells}
use Rattle.tv_lang.specs.declared.description.LangFault.{LangFault}
use Rattle.tv_lang.specs.declared.description.LangFault.TheVariants as unread
use Rattle.tv_machine.specs.Run.{started}
use Rattle.tv_model.specs.Faults.{IsSound}
use Rattle.tv_model.specs.declared.desc.Desc.{Desc}

-- the text spells the description, which has no faults
abbrev pub IsSpelledSound : List ℕ → Desc → Type 0
IsSpelledSound text d = Spells text d × IsSound d

-- the application runs the description that the text spells, from its start; nothing was painted again yet
abbrev pub StartsText : List ℕ → App → Type 0
StartsText text app = (d : Desc) × IsSpelledSound text d × Runs app (started d) × (app.session.repainted ≡ [])

-- why a text isn't opened: memory ran out, it spells no description, or the description has these faults
abbrev pub RefusesOpening : List ℕ → OpenFault → Type 0
RefusesOpening text unopened.NoMemory = Unit {0}
RefusesOpening text (unopened.Lang fault) = RefusesToParse text fault × (fault ≢ unread.NoMemory)
RefusesOpening text (unopened.Faults list) = (d : Desc) × Spells text d × HasFaults d list

-- the fault of a text that isn't read, as that of its opening
abbrev pub unread_opened : LangFault → OpenFault
unread_opened unread.NoMemory = unopened.NoMemory
unread_opened fault = unopened.Lang fault

-- the fault of a description that isn't sound, as that of its opening
abbrev pub faulty_opened : DescFault → OpenFault
faulty_opened faulty.NoMemory = unopened.NoMemory
faulty_opened (faulty.Faults list) = unopened.Faults list
