-- How a dialog ends.
use Rattle.std.specs.Prelude.{◌≡◌, ℕ, false, List, ◌∷◌, ◌++◌, map, Some, None, IsTrue, All, ◌==◌}
use Rattle.tv_event.specs.Commands.{cm_cancel}
use Rattle.tv_model.specs.declared.desc.Dialog.{Dialog}
use Rattle.tv_model.specs.declared.log.LogLine.{LogLine}
use Rattle.tv_model.specs.declared.log.LogLine.TheVariants as lines
use Rattle.tv_model.specs.Description.Commands.{is_end}
use Rattle.tv_model.specs.Description.Heads.{dialog_head}
use Rattle.tv_machine.specs.Dialog.Ending.{field_line, fields_of}
use Rattle.tv_machine.specs.Dialog.Modal.{Modal}
use Rattle.tv_machine.specs.Safe.{IsSafeRecord}
use Rattle.tv_laws.specs.Fit.{IsFitModal}

-- an `end` line of the dialog names it and a command that it declares; nothing is asked of other lines
abbrev pub NamesEndOf : Dialog → LogLine → Type 0
NamesEndOf d (lines.End i command) = (i ≡ d.node.id) × IsTrue (is_end (dialog_head d).ends command.0)
NamesEndOf d _ = Unit {0}

-- the dialog has ended by a command that it declares; the end and the fields, in description order, are the
-- last lines of
-- the log; and unless it was cancelled every text lies in its domain
pub record IsEnding (d : Dialog) (number : ℕ) (m : Modal) : Type 0 where
  pub declared : IsTrue (is_end (dialog_head d).ends number)
  pub before : List LogLine
  pub written : m.log
      ≡ before ++ lines.End d.node.id (record { 0 = number }) ∷ map field_line (fields_of m.leaves)
  pub saved : (number == cm_cancel) ≡ false → IsSafeRecord d (fields_of m.leaves)

-- a dialog that goes on
pub record IsOpen (d : Dialog) (m : Modal) : Type 0 where
  pub fit : IsFitModal d m
  pub log : All (NamesEndOf d) m.log
  pub going : m.ended ≡ None

-- a dialog after an event, which may have ended it
pub record IsDone (d : Dialog) (m : Modal) : Type 0 where
  pub fit : IsFitModal d m
  pub log : All (NamesEndOf d) m.log
  pub ends : (number : ℕ) → m.ended ≡ Some number → IsEnding d number m
