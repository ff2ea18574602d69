-- The state of a run.
use Rattle.std.specs.Prelude.{ℕ, ℤ, Bool, List, Option}
use Rattle.tv_cells.specs.Picture.{Picture}
use Rattle.tv_cells.specs.declared.rect.Point.{Point}
use Rattle.tv_model.specs.declared.node.Id.{Id}
use Rattle.tv_model.specs.declared.record.Value.{Value}
use Rattle.tv_model.specs.declared.log.LogLine.{LogLine}
use Rattle.tv_model.specs.Log.Record.{Entries}
use Rattle.tv_model.specs.Controls.Private.{Private}

-- a leaf of the open dialog: a field has a value, another leaf has none
pub record LeafState : Type 0 where
  pub id : Id
  pub value : Option Value
  pub private : Private

-- the leaf that holds the mouse, and the item that it remembers, or 0
pub record Held : Type 0 where
  pub id : Id
  pub item : ℕ

-- a window that is open, where its corner stands on the screen, and what the program has laid in its interior
pub record OpenWindow : Type 0 where
  pub id : Id
  pub origin : Point
  pub sheet : Option Picture

-- the dialog that is open, by its place in the description, where its corner stands on the screen, and its
-- leaves in
-- description order
pub record OpenDialog : Type 0 where
  pub place : ℕ
  pub origin : Point
  pub sheet : Option Picture
  pub leaves : List LeafState
  pub focus : Id
  pub held : Option Held

-- the menu that is open, by its place in the bar, from 0, and its current item, from 0
pub record OpenMenu : Type 0 where
  pub menu : ℕ
  pub item : ℕ

-- the frame that is dragged, which is the open dialog's or, without one, the front window's: the column of it
-- that the mouse holds, and where its corner stood at the down
pub record HeldFrame : Type 0 where
  pub off : ℤ
  pub from : Point

-- the state of a run
pub record State : Type 0 where
  -- whether the run is over
  pub is_over : Bool
  -- the open windows from front to back
  pub windows : List OpenWindow
  pub menu : Option OpenMenu
  pub dialog : Option OpenDialog
  pub frame : Option HeldFrame
  -- for each dialog of the description the record that its last end saved
  pub saved : List (Option Entries)
  -- for each dialog of the description its inputs in which typing overwrites, in description order
  pub overwriting : List (List Id)
  -- the lines of the last event that aren't yet taken
  pub log : List LogLine
