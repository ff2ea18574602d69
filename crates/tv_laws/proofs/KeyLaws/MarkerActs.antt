-- What letters act on, by their markers. The laws of what the certificate names follow from these.
use Rattle.std.proofs.Common.{[], ◌≡◌, ℕ, true, false, List, ◌∷◌, Some, None, option_map, pos, IsTrue, ◌==◌}
use Rattle.tv_event.specs.declared.event.Event.TheVariants as events
use Rattle.tv_event.specs.declared.event.Key.TheVariants as keys
use Rattle.tv_model.specs.declared.node.Node.{Node}
use Rattle.tv_model.specs.declared.desc.Dialog.{Dialog}
use Rattle.tv_model.specs.declared.desc.Version.{Version}
use Rattle.tv_model.specs.Controls.Behaviour.{Passed}
use Rattle.tv_model.specs.Description.Marks.{upper}
use Rattle.tv_model.specs.Description.Names.{gives_name, meant}
use Rattle.tv_model.specs.Description.Nodes.{is_button}
use Rattle.tv_model.specs.Description.Owners.{KeyOwner}
use Rattle.tv_machine.specs.State.{LeafState}
use Rattle.tv_machine.specs.Leaves.{PlacedNode}
use Rattle.tv_machine.specs.Controls.Tables.{key_answer}
use Rattle.tv_machine.specs.Dialog.Focus.{keeps_focus}
use Rattle.tv_machine.specs.Dialog.Modal.{Modal, content_at, leaf_at}
use Rattle.tv_machine.specs.Dialog.Shortcuts.{act, act_on, marking_leaf}
use Rattle.tv_machine.specs.Dialog.Step.{dialog_step}
use Rattle.tv_laws.specs.Fit.{IsFitModal}
use Rattle.tv_laws.specs.Letters.{HasActed, HasOwnNames, IsActOn, can_act, control_by, item_by, lines_now}

-- the one line that a sound certificate has for the letter and that holds names the control, with the item
-- that the letter presses
pub record IsOwner (version : Version) (d : Dialog) (leaves : List LeafState) (letter : ℕ) (marker : Node)
    (control : Node)
    : Type 0 where
  pub line : KeyOwner
  pub named : lines_now version d leaves letter ≡ line ∷ []
  pub name : IsTrue (gives_name line.owner.name control)
  -- and no other view, where no name is given twice
  pub only : HasOwnNames d → meant d.views line.owner.name ≡ Some control
  pub item : line.owner.item ≡ option_map (λ item. pos item) (item_by letter marker.kind)

-- the marker of a letter acts on the control that the certificate names for it, and on no other
abbrev pub MarkersActOnOwners : Version → Dialog → Type 0
MarkersActOnOwners version d =
    (m : Modal) (letter : ℕ) (marker : PlacedNode) (control : Node) → IsFitModal d m
    → marking_leaf d m.leaves letter ≡ Some marker
    → control_by d marker.node marker.node.kind ≡ Some control
    → IsOwner version d m.leaves letter marker.node control
    × IsActOn d (is_button marker.node.kind) control.id m (act d letter marker m)

-- a marker that can act does, unless the focus is an input that it may not leave. A button doesn't ask for
-- the focus
abbrev pub MarkersActWhereTheyCan : Dialog → Type 0
MarkersActWhereTheyCan d =
    (m : Modal) (letter : ℕ) (marker : PlacedNode) (control : Node) → IsFitModal d m
    → marking_leaf d m.leaves letter ≡ Some marker
    → control_by d marker.node marker.node.kind ≡ Some control → can_act d m.leaves marker ≡ true
    → (is_button marker.node.kind ≡ false → keeps_focus m (leaf_at d m.focus) ≡ false)
    → HasActed letter marker.node.kind control.id m (act d letter marker m)

-- a marker that can't act leaves everything as it was
abbrev pub UnableMarkersDoNothing : Dialog → Type 0
UnableMarkersDoNothing d =
    (m : Modal) (letter : ℕ) (marker : PlacedNode) → can_act d m.leaves marker ≡ false
    → act d letter marker m ≡ m

-- Alt with a letter is the act of its marker, whatever has the focus
abbrev pub AltLettersAct : Dialog → Type 0
AltLettersAct d =
    (m : Modal) (letter : ℕ) → m.held ≡ None
    → dialog_step d (events.Key (keys.Alt letter)) m ≡ act_on d letter (marking_leaf d m.leaves letter) m

-- so is a character that the focused control doesn't take, in upper case
abbrev pub TypedLettersAct : Dialog → Type 0
TypedLettersAct d =
    (m : Modal) (ch : ℕ) (focus : PlacedNode) → m.held ≡ None → leaf_at d m.focus ≡ Some focus
    → key_answer focus.node.kind (keys.Char ch) (content_at m focus.node.id) ≡ Passed
    → dialog_step d (events.Key (keys.Char ch)) m
    ≡ act_on d (upper ch) (marking_leaf d m.leaves (upper ch)) m

-- and so is a letter of a focused cluster's own items, whose marker is that cluster. Space isn't one
abbrev pub OwnLettersAct : Dialog → Type 0
OwnLettersAct d =
    (m : Modal) (ch item : ℕ) (focus : PlacedNode) → IsFitModal d m → m.held ≡ None
    → leaf_at d m.focus ≡ Some focus
    → (ch == 32) ≡ false → item_by ch focus.node.kind ≡ Some item
    → (marking_leaf d m.leaves (upper ch) ≡ Some focus)
    × (dialog_step d (events.Key (keys.Char ch)) m ≡ act d (upper ch) focus m)
