-- The letters that call a view from any focus, and what they act on.
use Rattle.std.specs.Prelude.{[], ℕ, Bool, true, false, List, ◌∷◌, ◌+◌, Option, Some, None, option_map}
use Rattle.std.specs.Prelude.{position, if◌then◌else◌}
use Rattle.tv_model.specs.declared.kind.MarkedText.{MarkedText}
use Rattle.tv_model.specs.Controls.Owner.{LetterOwner, control, item_at}
use Rattle.tv_model.specs.Description.Marks.{marks, upper}

-- check boxes have any of their items marked, radio buttons the selected one
pub data ClusterKind : Type 0 where
  Boxes : ClusterKind
  Radios : ClusterKind

-- what marks a letter in a declaration, and what the letter does
pub data Shortcut : Type 0 where
  -- nothing marks one
  NoMark : Shortcut
  -- the text of a label: the control of the name asks for the focus
  LinkMark : (text : MarkedText) (name : List ℕ) → Shortcut
  -- the text of a button of the name, which is pressed
  PressMark : (text : MarkedText) (name : List ℕ) → Shortcut
  -- the items of a cluster of the name: it asks for the focus, and then the item is selected and pressed
  ItemMarks : (cluster : ClusterKind) (name : List ℕ) (items : List MarkedText) → Shortcut

-- the texts in which a letter may be marked
abbrev pub marked_in : Shortcut → List MarkedText
marked_in NoMark = []
marked_in (LinkMark text name) = text ∷ []
marked_in (PressMark text name) = text ∷ []
marked_in (ItemMarks cluster name items) = items

-- what a letter acts on, where it is marked
abbrev pub owner_in : ℕ → Shortcut → Option LetterOwner
owner_in letter NoMark = None
owner_in letter (LinkMark text name) = if marks letter text then Some (control name) else None
owner_in letter (PressMark text name) = if marks letter text then Some (control name) else None
owner_in letter (ItemMarks cluster name items) = option_map (item_at name) (position (marks letter) items)

-- whether letters may be marked at all
abbrev pub has_marks : Shortcut → Bool
has_marks NoMark = false
has_marks (LinkMark text name) = true
has_marks (PressMark text name) = true
has_marks (ItemMarks cluster name items) = true

-- the first item that marks the letter, in either case, from 1
abbrev pub item_marking : List MarkedText → ℕ → Option ℕ
item_marking items ch = option_map (λ place. place + 1) (position (marks (upper ch)) items)
