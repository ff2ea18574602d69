-- Sheets that a program lays: a run has no others, and may always have them.
use Rattle.std.specs.Prelude.{◌≡◌, All, List, Option, Some, None}
use Rattle.tv_cells.specs.Picture.{Picture}
use Rattle.tv_model.specs.declared.desc.Desc.{Desc}
use Rattle.tv_model.specs.declared.node.Id.{Id}
use Rattle.tv_machine.specs.State.{OpenDialog, OpenWindow, State}
use Rattle.tv_machine.specs.Session.Laid.{laid}
use Rattle.tv_machine.specs.Session.Start.{start}
use Rattle.tv_laws.specs.Runs.{IsFitState, IsNext}

-- in no window lies a sheet
abbrev pub AreBare : List OpenWindow → Type 0
AreBare windows = All (λ window. window.sheet ≡ None) windows

-- nor in the dialog, if one is open
abbrev pub IsBare : Option OpenDialog → Type 0
IsBare None = Unit {0}
IsBare (Some o) = o.sheet ≡ None

-- the program has laid no sheet in anything that is open
abbrev pub HasNoSheets : State → Type 0
HasNoSheets s = AreBare s.windows × IsBare s.dialog

-- a run starts without sheets
abbrev pub StartsBare : Desc → Type 0
StartsBare d = HasNoSheets (start d)

-- events and commands lay none
abbrev pub RunsBare : Desc → Type 0
RunsBare d = (s after : State) → HasNoSheets s → IsNext d s after → HasNoSheets after

-- a fit state stays fit where one is laid
abbrev pub SheetsFit : Desc → Type 0
SheetsFit d =
    (s : State) (i : Id) (sheet : Option Picture) → IsFitState d s → IsFitState d (laid d i sheet s)
