-- What letters act on in a dialog.
use Rattle.std.specs.Prelude.{[], ℕ, Bool, List, ◌∷◌, Option, Some, None, filter, find, is_some, ◌&&◌}
use Rattle.std.specs.Prelude.{if◌then◌else◌, IsTrue}
use Rattle.std.specs.List.{AllPairs}
use Rattle.tv_model.specs.declared.node.Id.{Id}
use Rattle.tv_model.specs.declared.node.Node.{Node}
use Rattle.tv_model.specs.declared.kind.Kind.{Kind}
use Rattle.tv_model.specs.Kinds.{behaviour}
use Rattle.tv_model.specs.Controls.Shortcut.{item_marking, Shortcut, NoMark, LinkMark, PressMark, ItemMarks}
use Rattle.tv_model.specs.Controls.Shortcut.{ClusterKind}
use Rattle.tv_model.specs.declared.desc.Dialog.{Dialog}
use Rattle.tv_model.specs.Description.Names.{meant}
use Rattle.tv_model.specs.Description.Owners.{owner_by}
use Rattle.tv_machine.specs.State.{LeafState}
use Rattle.tv_machine.specs.Leaves.{PlacedNode, leaf_list}
use Rattle.tv_model.specs.Kinds.Cluster.{cluster_item_pressed}
use Rattle.tv_machine.specs.Dialog.Rules.{is_visible, is_enabled}
use Rattle.tv_machine.specs.Dialog.Focus.{request, request_then}
use Rattle.tv_machine.specs.Dialog.Ending.{press}
use Rattle.tv_machine.specs.Dialog.Modal.{Modal, content_at, content_put}

-- the leaves that mark the letter, hidden or not
abbrev pub marking_leaves : Dialog → ℕ → List PlacedNode
marking_leaves d letter = filter (λ leaf. is_some (owner_by letter leaf.node.kind)) (leaf_list d.views)

-- of leaves that mark a letter its marker: the one, hidden or not, and of several the visible one, if any is
abbrev pub marker_among : Dialog → List LeafState → List PlacedNode → Option PlacedNode
marker_among d leaves [] = None
marker_among d leaves (marker ∷ []) = Some marker
marker_among d leaves (marker ∷ other ∷ others) = find (is_visible d leaves) (marker ∷ other ∷ others)

-- the marker of the letter, for the marks that these leaves have
abbrev pub marking_leaf : Dialog → List LeafState → ℕ → Option PlacedNode
marking_leaf d leaves letter = marker_among d leaves (marking_leaves d letter)

-- the leaf marks the letter, and is visible
abbrev pub is_visible_marker : Dialog → List LeafState → ℕ → PlacedNode → Bool
is_visible_marker d leaves letter leaf =
    is_some (owner_by letter leaf.node.kind) && is_visible d leaves leaf

-- no letter has two visible markers
abbrev pub HaveOneMarker : Dialog → List LeafState → Type 0
HaveOneMarker d leaves =
    (letter : ℕ)
    → AllPairs (λ leaf other.
    IsTrue (is_visible_marker d leaves letter leaf)
    → IsTrue (is_visible_marker d leaves letter other)
    → ⊥) (leaf_list d.views)

-- a label asks for the focus of its link
abbrev pub request_link : Dialog → Option Node → Modal → Modal
request_link d None m = m
request_link d (Some link) m = request d link.id m

-- the item of a cluster is selected and pressed
abbrev pub press_item : Dialog → ClusterKind → Id → Option ℕ → Modal → Modal
press_item d kind i None m = m
press_item d kind i (Some item) m = content_put d i (cluster_item_pressed kind item (content_at m i)) m

-- a cluster asks for the focus, and where that is granted its item is selected and pressed
abbrev pub call_item : Dialog → ClusterKind → Id → Option ℕ → Modal → Modal
call_item d kind i item m = request_then d i (press_item d kind i item) m

-- what a letter does: a label's focuses its link, a button's presses it if it is enabled, an item's presses
-- the item
abbrev pub called_by : Dialog → ℕ → PlacedNode → Shortcut → Modal → Modal
called_by d letter leaf NoMark m = m
called_by d letter leaf (LinkMark text name) m = request_link d (meant d.views name) m
called_by d letter leaf (PressMark text name) m =
    if is_enabled d m.leaves leaf.node then press d leaf m else m
called_by d letter leaf (ItemMarks kind name items) m =
    call_item d kind leaf.node.id (item_marking items letter) m

-- what a letter does with a marker by its kind
abbrev pub called : Dialog → ℕ → PlacedNode → Kind → Modal → Modal
called d letter leaf kind m = called_by d letter leaf (behaviour kind).shortcut m

-- the letter acts on its marker; a hidden one does nothing
abbrev pub act : Dialog → ℕ → PlacedNode → Modal → Modal
act d letter leaf m = if is_visible d m.leaves leaf then called d letter leaf leaf.node.kind m else m

-- the same where there is a marker
abbrev pub act_on : Dialog → ℕ → Option PlacedNode → Modal → Modal
act_on d letter None m = m
act_on d letter (Some leaf) m = act d letter leaf m
