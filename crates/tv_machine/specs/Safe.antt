-- What holds at the start of a run and after each event.
use Rattle.std.specs.Prelude.{◌≡◌, ◌≤◌, ℕ, Bool, false, true, List, map, filter, length, slice_get, Option}
use Rattle.std.specs.Prelude.{Some, None, All, is_some, ℤ, pos, ◌+ℤ◌, ◌-ℤ◌, ◌≤ℤ◌, ◌<ℤ◌, [], ◌∷◌, option_map}
use Rattle.tv_cells.specs.declared.rect.Point.{Point}
use Rattle.tv_event.specs.declared.event.Event.{Event}
use Rattle.tv_valid.specs.declared.domain.Domain.{Domain}
use Rattle.tv_valid.specs.Domain.{IsViableText, InDomain}
use Rattle.tv_model.specs.declared.node.Id.{Id}
use Rattle.tv_model.specs.declared.node.Node.{Node}
use Rattle.tv_model.specs.declared.kind.Kind.{Kind}
use Rattle.tv_model.specs.Kinds.{facts}
use Rattle.tv_model.specs.declared.record.Value.{Value}
use Rattle.tv_model.specs.declared.record.Value.TheVariants as values
use Rattle.tv_model.specs.declared.record.Entry.{Entry}
use Rattle.tv_model.specs.declared.desc.Desc.{Desc}
use Rattle.tv_model.specs.declared.desc.Dialog.{Dialog}
use Rattle.tv_model.specs.declared.log.LogLine.{LogLine}
use Rattle.tv_model.specs.declared.log.LogLine.TheVariants as lines
use Rattle.tv_model.specs.Description.Commands.{is_end}
use Rattle.tv_model.specs.Description.Heads.{dialog_head}
use Rattle.tv_model.specs.Description.Nodes.{node_of}
use Rattle.tv_model.specs.Description.Rectangles.{corner_of}
use Rattle.tv_model.specs.Controls.Contents.{Content, text_of}
use Rattle.tv_model.specs.Log.Record.{Entries}
use Rattle.tv_machine.specs.Controls.Declared.{declared_value}
use Rattle.tv_machine.specs.State.{State, OpenDialog, OpenWindow, Held, HeldFrame}
use Rattle.tv_model.specs.Controls.Private.{Private}
use Rattle.tv_model.specs.Kinds.InputLine.{cursor_of}
use Rattle.tv_machine.specs.Leaves.{PlacedNode, leaf_list}
use Rattle.tv_machine.specs.Dialog.Rules.{content_held, is_among, is_visible, is_enabled}
use Rattle.tv_machine.specs.Dialog.Modal.{leaf_at}
use Rattle.tv_machine.specs.Dialog.Focus.{is_free_at}
use Rattle.tv_machine.specs.Session.Commands.{overwriting_at}
use Rattle.tv_machine.specs.Screen.Bodies.{window_of}
use Rattle.tv_machine.specs.Session.Step.{dialog_with_hold, step}
use Rattle.tv_machine.specs.Session.Start.{start}
use Rattle.tv_machine.specs.Output.{states}

-- ---- values

-- whether the text may stand in an input that is declared so, or lies in its domain
abbrev pub IsTextOf : (Domain → List ℕ → Type 0) → Kind → List ℕ → Type 0
IsTextOf Allows kind text = (facts kind).IsText Allows text

-- an item, from 1, that radio buttons or a list have
abbrev pub IsItemOf : Kind → ℕ → Type 0
IsItemOf kind item = (facts kind).IsItem item

-- marks of items that check boxes have
abbrev pub AreMarksOf : Kind → ℕ → Type 0
AreMarksOf kind marks = (facts kind).AreMarks marks

-- a value that a field of the kind may have, where its texts are allowed so
abbrev pub IsValueOf : (Domain → List ℕ → Type 0) → Kind → Value → Type 0
IsValueOf Allows kind (values.Text text) = IsTextOf Allows kind text
IsValueOf Allows kind (values.Marks marks) = AreMarksOf kind marks
IsValueOf Allows kind (values.Item item) = IsItemOf kind item

-- whether a leaf of the kind is a field
abbrev pub is_field : Kind → Bool
is_field kind = is_some (declared_value kind)

-- a field has a value that it may have while it is typed, and no other leaf has one
abbrev pub HasValueOf : Kind → Option Value → Type 0
HasValueOf kind None = is_field kind ≡ false
HasValueOf kind (Some value) = IsValueOf IsViableText kind value

-- ---- the open dialog

-- what a leaf of the kind holds: a value of its kind, with the cursor in the text
pub record IsSafeContent (kind : Kind) (content : Content) : Type 0 where
  pub value : HasValueOf kind content.value
  pub cursor : cursor_of content.private ≤ length (text_of content.value)

-- the leaf that holds the mouse is visible, and a button enabled
pub record IsSafeHold (dialog : Dialog) (o : OpenDialog) (held : Held) : Type 0 where
  pub leaf : PlacedNode
  pub there : leaf_at dialog held.id ≡ Some leaf
  pub visible : is_visible dialog o.leaves leaf ≡ true
  pub enabled : is_enabled dialog o.leaves leaf.node ≡ true

-- what a leaf of the open dialog holds is safe
abbrev pub IsSafeLeaf : State → OpenDialog → PlacedNode → Type 0
IsSafeLeaf s o leaf =
    IsSafeContent leaf.node.kind (content_held o.leaves (overwriting_at s o.place) leaf.node.id)

-- the top row of a frame with this corner and width has a cell on the desktop
pub record HasTopCell (d : Desc) (corner : Point) (width : ℤ) : Type 0 where
  pub row : (pos 1 ≤ℤ corner.y) × (corner.y ≤ℤ (d.height -ℤ pos 2))
  pub column : ℤ
  pub on_screen : (pos 0 ≤ℤ column) × (column <ℤ d.width)
  pub in_frame : (corner.x ≤ℤ column) × (column <ℤ (corner.x +ℤ width))

-- each dialog has such a cell where it is declared
abbrev pub StandOnDesktop : Desc → Type 0
StandOnDesktop d = All (λ dialog. HasTopCell d (corner_of dialog.node) dialog.node.w) d.dialogs

-- the open dialog is one of the description, with its leaves in order; its focus is free, no menu is open,
-- and its top row can be seen
pub record IsSafeDialog (d : Desc) (s : State) (o : OpenDialog) : Type 0 where
  pub dialog : Dialog
  pub there : slice_get d.dialogs o.place ≡ Some dialog
  pub leaves : map (λ leaf. leaf.id) o.leaves ≡ map (λ leaf. leaf.node.id) (leaf_list dialog.views)
  pub focus : is_free_at dialog o.leaves o.focus ≡ true
  pub held : (held : Held) → o.held ≡ Some held → IsSafeHold dialog o held
  pub contents : All (IsSafeLeaf s o) (leaf_list dialog.views)
  pub menu : s.menu ≡ None
  pub over : s.is_over ≡ false
  pub top : HasTopCell d o.origin dialog.node.w

-- ---- a held frame

-- the width of the front window
abbrev pub front_width : Desc → List OpenWindow → Option ℤ
front_width d [] = None
front_width d (front ∷ behind) = option_map (λ window. window.node.w) (window_of d front.id)

-- the width of the frame that is dragged: the open dialog's or, without one, the front window's
abbrev pub dragged_width : Desc → Option OpenDialog → List OpenWindow → Option ℤ
dragged_width d None windows = front_width d windows
dragged_width d (Some o) windows = option_map (λ dialog. dialog.node.w) (slice_get d.dialogs o.place)

-- there is a frame that the mouse holds by a column of it; no leaf holds the mouse beside it, and no menu is
-- open
pub record IsSafeFrame (d : Desc) (s : State) (frame : HeldFrame) : Type 0 where
  pub width : ℤ
  pub there : dragged_width d s.dialog s.windows ≡ Some width
  pub column : (pos 0 ≤ℤ frame.off) × (frame.off <ℤ width)
  pub leaf : dialog_with_hold s.dialog ≡ None
  pub menu : s.menu ≡ None
  pub over : s.is_over ≡ false

-- ---- saved records

-- the fields of a dialog, in description order
abbrev pub field_ids : Dialog → List Id
field_ids dialog =
    map (λ leaf. leaf.node.id) (filter (λ leaf. is_field leaf.node.kind) (leaf_list dialog.views))

-- a value that the field of the entry may be saved with
pub record IsSafeEntry (dialog : Dialog) (entry : Entry) : Type 0 where
  pub node : Node
  pub there : node_of dialog.views entry.id ≡ Some node
  pub value : IsValueOf InDomain node.kind entry.value

-- exactly the dialog's fields, each text in its domain, and items that there are
pub record IsSafeRecord (dialog : Dialog) (entries : Entries) : Type 0 where
  pub fields : map (λ entry. entry.id) entries ≡ field_ids dialog
  pub values : All (IsSafeEntry dialog) entries

-- the record that a dialog saved
pub record IsSafeSaved (d : Desc) (place : ℕ) (entries : Entries) : Type 0 where
  pub dialog : Dialog
  pub there : slice_get d.dialogs place ≡ Some dialog
  pub record_of : IsSafeRecord dialog entries

-- ---- the log

-- a dialog of this id declares the command as an end of it
pub record Declares (d : Desc) (i : Id) (number : ℕ) : Type 0 where
  pub place : ℕ
  pub dialog : Dialog
  pub there : slice_get d.dialogs place ≡ Some dialog
  pub id : dialog.node.id ≡ i
  pub «end» : is_end (dialog_head dialog).ends number ≡ true

-- an `end` line names a declared command; nothing is asked of other lines
abbrev pub HasDeclaredEnd : Desc → LogLine → Type 0
HasDeclaredEnd d (lines.End i command) = Declares d i command.0
HasDeclaredEnd d _ = Unit {0}

-- ---- the safe state

-- an open dialog can be used, a held frame is there, saved records lie in their domains, and dialogs end as
-- they declare
pub record IsSafe (d : Desc) (s : State) : Type 0 where
  pub dialog : (o : OpenDialog) → s.dialog ≡ Some o → IsSafeDialog d s o
  pub frame : (frame : HeldFrame) → s.frame ≡ Some frame → IsSafeFrame d s frame
  pub saved : (place : ℕ) (entries : Entries) → slice_get s.saved place ≡ Some (Some entries)
      → IsSafeSaved d place entries
  pub ends : All (HasDeclaredEnd d) s.log

-- every run is safe: at the start, and after any events
abbrev pub IsAlwaysSafe : Desc → Type 0
IsAlwaysSafe d = (events : List Event) → IsSafe d (states (step d) (start d) events)

-- ---- what every step keeps

-- what a leaf keeps beside its value is of its kind, and the item that check boxes have selected exists
abbrev pub IsPrivateOf : Kind → Private → Type 0
IsPrivateOf kind private = (facts kind).IsPrivate private

-- the inputs of a dialog in which typing overwrites stand in description order
pub record IsFitOverwriting (d : Desc) (place : ℕ) (ids : List Id) : Type 0 where
  pub dialog : Dialog
  pub there : slice_get d.dialogs place ≡ Some dialog
  pub ordered : ids ≡ filter (is_among ids) (map (λ view. view.id) dialog.views)
