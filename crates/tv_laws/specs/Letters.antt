-- What letters act on in an open dialog, and all that they may change.
use Rattle.std.specs.Prelude.{[], ◌≡◌, ◌≢◌, ◌⊎◌, ℕ, Bool, true, false, ◌&&◌, List, ◌∷◌, ◌++◌, filter, Option}
use Rattle.std.specs.Prelude.{Some}
use Rattle.std.specs.Prelude.{None, option_map, option_to_list, pos, slice_get, IsTrue, All, Any, ◌==◌}
use Rattle.std.specs.Prelude.{if◌then◌else◌}
use Rattle.std.specs.List.{AllPairs}
use Rattle.tv_event.specs.declared.event.Event.TheVariants as events
use Rattle.tv_event.specs.declared.event.Key.TheVariants as keys
use Rattle.tv_model.specs.declared.node.Id.{Id}
use Rattle.tv_model.specs.declared.node.Node.{Node}
use Rattle.tv_model.specs.declared.kind.Kind.{Kind}
use Rattle.tv_model.specs.declared.kind.Kind.TheVariants as kinds
use Rattle.tv_model.specs.declared.desc.Desc.{Desc}
use Rattle.tv_model.specs.declared.desc.Dialog.{Dialog}
use Rattle.tv_model.specs.declared.desc.Version.{Version}
use Rattle.tv_model.specs.declared.desc.Version.TheVariants as versions
use Rattle.tv_model.specs.declared.desc.When.{When}
use Rattle.tv_model.specs.declared.log.LogLine.{LogLine}
use Rattle.tv_model.specs.declared.log.LogLine.TheVariants as lines
use Rattle.tv_model.specs.Controls.Shortcut.{item_marking, ClusterKind, Boxes, Radios}
use Rattle.tv_model.specs.Description.Marks.{upper}
use Rattle.tv_model.specs.Description.Names.{gives_name, meant}
use Rattle.tv_model.specs.Description.Nodes.{is_button, name_of}
use Rattle.tv_model.specs.Description.Numbers.{natural}
use Rattle.tv_model.specs.Description.Owners as owners
use Rattle.tv_model.specs.Description.Owners.{KeyOwner, owner_by, owners_of}
use Rattle.tv_model.specs.Description.Sharing.{is_radios, sharer_by, sharing_rules}
use Rattle.tv_machine.specs.State.{LeafState, OpenDialog, State}
use Rattle.tv_machine.specs.Leaves.{PlacedNode, leaf_list}
use Rattle.tv_model.specs.Controls.Behaviour.{Passed}
use Rattle.tv_model.specs.Kinds.Cluster.{cluster_item_pressed}
use Rattle.tv_machine.specs.Controls.Tables.{key_answer}
use Rattle.tv_machine.specs.Dialog.Ending.{first_invalid}
use Rattle.tv_machine.specs.Dialog.Focus.{Refused, is_free_at, keeps_focus, requested}
use Rattle.tv_machine.specs.Dialog.Modal.{Modal, content_at, leaf_at, with_line}
use Rattle.tv_machine.specs.Dialog.Lawful.{ShowsBy}
use Rattle.tv_machine.specs.Dialog.Rules.{is_kind_enabled, is_marked_at, is_visible}
use Rattle.tv_machine.specs.Dialog.Shortcuts.{HaveOneMarker, act, is_visible_marker, marking_leaf}
use Rattle.tv_machine.specs.Dialog.Shortcuts.{marking_leaves}
use Rattle.tv_machine.specs.Dialog.Step.{dialog_step}
use Rattle.tv_laws.specs.Fit.{IsFitModal}
use Rattle.tv_laws.specs.Runs.{IsFitState}

-- ---- markers

-- no letter has two visible markers in an open dialog at work
abbrev pub LettersHaveOneMarker : Dialog → Type 0
LettersHaveOneMarker d = (m : Modal) → IsFitModal d m → HaveOneMarker d m.leaves

-- nor has one in the dialog that is open in a fit state
abbrev pub LettersAlwaysHaveOneMarker : Desc → Type 0
LettersAlwaysHaveOneMarker d =
    (s : State) (o : OpenDialog) (dialog : Dialog) → IsFitState d s → s.dialog ≡ Some o
    → slice_get d.dialogs o.place ≡ Some dialog → HaveOneMarker dialog o.leaves

-- a visible leaf that marks a letter is its marker
abbrev pub VisibleIsMarker : Dialog → Type 0
VisibleIsMarker d =
    (m : Modal) → IsFitModal d m → (letter : ℕ)
    → All (λ leaf.
    is_visible_marker d m.leaves letter leaf ≡ true → marking_leaf d m.leaves letter ≡ Some leaf)
    (leaf_list d.views)

-- ---- the lines of the certificate

-- a line of the certificate for a letter holds: it has no `when`, or the item of its radio buttons is marked
abbrev pub holds_now : Dialog → List LeafState → Option When → Bool
holds_now d leaves None = true
holds_now d leaves (Some shown) = is_marked_at leaves (natural shown.item) (meant d.views shown.radios)

-- the lines of a letter that hold for the marks of these leaves. In version 1 all do: there is at most one
abbrev pub lines_now : Version → Dialog → List LeafState → ℕ → List KeyOwner
lines_now version d leaves letter =
    filter (λ line. holds_now d leaves line.when) (owners_of version d letter)

-- these are radio buttons, and by a rule the leaf is shown only while their item is marked
pub record IsShownWhile (d : Dialog) (leaf : PlacedNode) (shown : When) : Type 0 where
  pub radios : Node
  pub named : meant d.views shown.radios ≡ Some radios
  pub kind : IsTrue (is_radios radios.kind)
  pub rule : Any (ShowsBy d radios (natural shown.item) leaf) d.rules

-- so it is where there is a `when`
abbrev pub IsShownWhen : Dialog → PlacedNode → Option When → Type 0
IsShownWhen d leaf None = Unit {0}
IsShownWhen d leaf (Some shown) = IsShownWhile d leaf shown

-- the line names what the letter acts on by this marker, and its `when` is one by which the marker is shown
pub record IsLineOf (d : Dialog) (letter : ℕ) (line : KeyOwner) (marker : PlacedNode) : Type 0 where
  pub owner : owner_by letter marker.node.kind ≡ Some line.owner
  pub when : IsShownWhen d marker line.when

-- a line for each marker, in description order
abbrev pub AreLinesOf : Dialog → ℕ → List KeyOwner → List PlacedNode → Type 0
AreLinesOf d letter [] [] = Unit {0}
AreLinesOf d letter (line ∷ lines) (marker ∷ markers) =
    IsLineOf d letter line marker × AreLinesOf d letter lines markers
AreLinesOf d letter _ _ = ⊥

-- different items of the same radio buttons
abbrev pub AreOtherItems : Option When → Option When → Type 0
AreOtherItems (Some shown) (Some other) =
    (shown.radios ≡ other.radios) × (natural shown.item ≢ natural other.item)
AreOtherItems _ _ = ⊥

-- the lines of a letter are those of its markers. An only line has no `when`, and of several each has another
-- item of the same radio buttons
pub record HasLinesOf (version : Version) (d : Dialog) (letter : ℕ) : Type 0 where
  pub markers : AreLinesOf d letter (owners_of version d letter) (marking_leaves d letter)
  pub alone : (line : KeyOwner) → owners_of version d letter ≡ line ∷ [] → line.when ≡ None
  pub apart : AllPairs (λ line other. AreOtherItems line.when other.when) (owners_of version d letter)

-- so it is for each letter, as in a dialog of a sound description of this version: in version 1 at most one
-- view marks it
abbrev pub HasLines : Version → Dialog → Type 0
HasLines version d = (letter : ℕ) → HasLinesOf version d letter

-- in version 1 the lines that hold are those that there are: the one owner of the letter, if it has one
abbrev pub OneLineInFirstVersion : Dialog → Type 0
OneLineInFirstVersion d =
    (leaves : List LeafState) (letter : ℕ)
    → lines_now versions.One d leaves letter
    ≡ option_to_list (option_map owners.always (owners.owner_of d letter))

-- ---- what the certificate names

-- the marker of a letter that isn't shared is the view whose owner the certificate names. In version 1 none
-- is shared
abbrev pub CertificateNamesMarker : Version → Dialog → Type 0
CertificateNamesMarker version d =
    (leaves : List LeafState) (letter : ℕ)
    → sharer_by (sharing_rules version d.rules) d.views letter ≡ None
    → option_map (λ leaf. leaf.node) (marking_leaf d leaves letter) ≡ owners.marker_of d letter

-- what a marker acts on: a label on the control that its link means, any other marker on itself
abbrev pub control_by : Dialog → Node → Kind → Option Node
control_by d marker (kinds.Label label) = meant d.views label.link
control_by d marker _ = Some marker

-- the item of a cluster that marks the letter, from 1
abbrev pub item_by : ℕ → Kind → Option ℕ
item_by letter (kinds.CheckBoxes boxes) = item_marking boxes.items letter
item_by letter (kinds.RadioButtons radios) = item_marking radios.items letter
item_by letter _ = None

-- no two views of the dialog have a name in common
abbrev pub HasOwnNames : Dialog → Type 0
HasOwnNames d =
    AllPairs (λ view other.
    (name : List ℕ) → name_of view.kind ≡ Some name → name_of other.kind ≡ Some name → ⊥) d.views

-- ---- all that an act may change

-- where the focus is after an act on a control: where it was, or at the control; and after a press of a
-- button where it was,
-- or at the first input whose text refused an end
abbrev pub IsFocusAfter : Bool → Dialog → Id → Modal → Id → Type 0
IsFocusAfter false d i m focus = (focus ≡ m.focus) ⊎ (focus ≡ i)
IsFocusAfter true d i m focus = (focus ≡ m.focus) ⊎ (first_invalid d m ≡ Some focus)

-- every leaf but that of the id has the value that it had
abbrev pub KeepsOthers : Dialog → Id → Modal → Modal → Type 0
KeepsOthers d i m n =
    All (λ leaf.
    (leaf.node.id.0 == i.0) ≡ false
    → (content_at n leaf.node.id).value ≡ (content_at m leaf.node.id).value)
    (leaf_list d.views)

-- a `press` line names the control; nothing is asked of other lines
abbrev pub IsPressOf : Id → LogLine → Type 0
IsPressOf i (lines.Press button) = button ≡ i
IsPressOf i _ = Unit {0}

-- the lines that were logged stay, with others behind them
abbrev pub LogGrows : Modal → Modal → Type 0
LogGrows m n = (more : List LogLine) × (n.log ≡ m.log ++ more)

-- other controls keep their values, and the mouse holds what it held; and only a press of a button ends the dialog
pub record IsActOn (d : Dialog) (is_press : Bool) (i : Id) (m : Modal) (n : Modal) : Type 0 where
  pub focus : IsFocusAfter is_press d i m n.focus
  pub values : KeepsOthers d i m n
  pub held : n.held ≡ m.held
  pub grows : LogGrows m n
  pub presses : All (IsPressOf i) m.log → All (IsPressOf i) n.log
  pub ended : is_press ≡ false → n.ended ≡ m.ended

-- ---- whether a marker can act

-- whether there is a link and it is free to focus
abbrev pub is_free_link : Dialog → List LeafState → Option Node → Bool
is_free_link d leaves None = false
is_free_link d leaves (Some link) = is_free_at d leaves link.id

-- a label needs a free link
abbrev pub has_link : Dialog → List LeafState → Kind → Bool
has_link d leaves (kinds.Label label) = is_free_link d leaves (meant d.views label.link)
has_link d leaves _ = true

-- whether a marker can act: it is visible, enabled if it is a button, and has a free link if it is a label
abbrev pub can_act : Dialog → List LeafState → PlacedNode → Bool
can_act d leaves marker =
    is_visible d leaves marker
    && (is_kind_enabled d leaves marker.node.kind && has_link d leaves marker.node.kind)

-- ---- what an act does

-- the item of the cluster, where it has one of the letter, is selected and pressed
abbrev pub HasPressed : ClusterKind → Id → Option ℕ → Modal → Modal → Type 0
HasPressed kind i None m n = ⊥
HasPressed kind i (Some item) m n = content_at n i ≡ cluster_item_pressed kind item (content_at m i)

-- by the kind of the marker: a button is pressed first of all; a label's control has the focus, and the value
-- that it had; and
-- a cluster has the focus, and its item is selected and pressed
abbrev pub HasActed : ℕ → Kind → Id → Modal → Modal → Type 0
HasActed letter (kinds.Button button) i m n =
    (after : List LogLine) × (n.log ≡ m.log ++ lines.Press i ∷ after)
HasActed letter (kinds.Label label) i m n = (n.focus ≡ i) × ((content_at n i).value ≡ (content_at m i).value)
HasActed letter (kinds.CheckBoxes boxes) i m n =
    (n.focus ≡ i) × HasPressed Boxes i (item_marking boxes.items letter) m n
HasActed letter (kinds.RadioButtons radios) i m n =
    (n.focus ≡ i) × HasPressed Radios i (item_marking radios.items letter) m n
HasActed letter _ i m n = Unit {0}

-- ---- what a letter acts on

-- the line of the certificate for a letter that holds now, and the leaf that marks the letter by it
pub record Named : Type 0 where
  pub line : KeyOwner
  pub marker : PlacedNode

-- the lines and the markers stand in one order
abbrev pub named_among : Dialog → List LeafState → List KeyOwner → List PlacedNode → Option Named
named_among d leaves (line ∷ lines) (marker ∷ markers) =
    if holds_now d leaves line.when then Some (record { line = line; marker = marker })
    else named_among d leaves lines markers
named_among d leaves _ _ = None

-- what the certificate names for the letter now
abbrev pub named_by : Version → Dialog → List LeafState → ℕ → Option Named
named_by version d leaves letter =
    named_among d leaves (owners_of version d letter) (marking_leaves d letter)

-- its act, if anything is named
abbrev pub act_named : Dialog → ℕ → Option Named → Modal → Modal
act_named d letter None m = m
act_named d letter (Some named) m = act d letter named.marker m

-- whether anything is named that can act
abbrev pub can_act_named : Dialog → List LeafState → Option Named → Bool
can_act_named d leaves None = false
can_act_named d leaves (Some named) = can_act d leaves named.marker

-- ---- shortcuts

-- Alt with a letter is the act of what the certificate names for it, whatever has the focus; so is a character
-- that the focused control doesn't take, in upper case; and so is a letter of a focused cluster's own items,
-- which that cluster marks. Space isn't one
pub record KeysActAsNamed (version : Version) (d : Dialog) : Type 0 where
  pub alt : (m : Modal) (letter : ℕ) → IsFitModal d m → m.held ≡ None
      → dialog_step d (events.Key (keys.Alt letter)) m
      ≡ act_named d letter (named_by version d m.leaves letter) m
  pub typed : (m : Modal) (ch : ℕ) (focus : PlacedNode) → IsFitModal d m → m.held ≡ None
      → leaf_at d m.focus ≡ Some focus
      → key_answer focus.node.kind (keys.Char ch) (content_at m focus.node.id) ≡ Passed
      → dialog_step d (events.Key (keys.Char ch)) m
      ≡ act_named d (upper ch) (named_by version d m.leaves (upper ch)) m
  pub own : (m : Modal) (ch item : ℕ) (focus : PlacedNode) → IsFitModal d m → m.held ≡ None
      → leaf_at d m.focus ≡ Some focus → (ch == 32) ≡ false → item_by ch focus.node.kind ≡ Some item
      → (marking_leaf d m.leaves (upper ch) ≡ Some focus)
      × (dialog_step d (events.Key (keys.Char ch)) m
      ≡ act_named d (upper ch) (named_by version d m.leaves (upper ch)) m)

-- where nothing is named, or what is named can't act, nothing changes
abbrev pub UnableNamedDoNothing : Dialog → Type 0
UnableNamedDoNothing d =
    (m : Modal) (letter : ℕ) (named : Option Named) → can_act_named d m.leaves named ≡ false
    → act_named d letter named m ≡ m

-- nor does anything change, but for a line of the log, where the focus may not leave an input for the control
abbrev pub RefusedFocusChangesNothing : Dialog → Type 0
RefusedFocusChangesNothing d =
    (m : Modal) (letter : ℕ) (marker : PlacedNode) (control : Node)
    → control_by d marker.node marker.node.kind ≡ Some control
    → is_button marker.node.kind ≡ false → requested d m control.id ≡ Refused
    → (act d letter marker m ≡ m) ⊎ (act d letter marker m ≡ with_line (lines.Invalid m.focus) m)

-- the one line that holds names the control, with the item that the letter presses; the act changes the value of
-- no other control, nor what the mouse holds, nor lines that were logged; and it does what its marker is for,
-- unless the focus is an input that it may not leave. A button doesn't ask for the focus
pub record IsActOfNamed (version : Version) (d : Dialog) (letter : ℕ) (named : Named) (control : Node)
    (m : Modal) : Type 0 where
  pub holds : lines_now version d m.leaves letter ≡ named.line ∷ []
  pub name : IsTrue (gives_name named.line.owner.name control)
  -- and no other view, where no name is given twice
  pub only : HasOwnNames d → meant d.views named.line.owner.name ≡ Some control
  pub item : named.line.owner.item ≡ option_map (λ item. pos item) (item_by letter named.marker.node.kind)
  pub changes : IsActOn d (is_button named.marker.node.kind) control.id m (act d letter named.marker m)
  pub does : (is_button named.marker.node.kind ≡ false → keeps_focus m (leaf_at d m.focus) ≡ false)
      → HasActed letter named.marker.node.kind control.id m (act d letter named.marker m)

-- so it is where what is named can act
abbrev pub NamedActOnControls : Version → Dialog → Type 0
NamedActOnControls version d =
    (m : Modal) (letter : ℕ) (named : Named) (control : Node) → IsFitModal d m
    → named_by version d m.leaves letter ≡ Some named → can_act d m.leaves named.marker ≡ true
    → control_by d named.marker.node named.marker.node.kind ≡ Some control
    → IsActOfNamed version d letter named control m
