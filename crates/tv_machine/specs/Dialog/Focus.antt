-- Where the focus goes: the next and the previous control, and what a focus request comes to.
use Rattle.std.specs.Prelude.{ℕ, Bool, true, false, not, ◌&&◌, List, ◌++◌, map, find, position, reverse}
use Rattle.std.specs.Prelude.{take, drop, length, Option, Some, None, option_map, unwrap_or, ◌+◌, ◌==◌}
use Rattle.std.specs.Prelude.{if◌then◌else◌}
use Rattle.tv_model.specs.declared.node.Id.{Id}
use Rattle.tv_model.specs.declared.kind.Kind.{Kind}
use Rattle.tv_model.specs.Kinds.{behaviour}
use Rattle.tv_model.specs.declared.desc.Dialog.{Dialog}
use Rattle.tv_model.specs.declared.log.LogLine.TheVariants as lines
use Rattle.tv_machine.specs.State.{LeafState}
use Rattle.tv_machine.specs.Leaves.{PlacedNode, leaf_list}
use Rattle.tv_model.specs.Kinds.InputLine.{Edit, entered, left, edit_of, edit_content}
use Rattle.tv_model.specs.Controls.Contents.{Content}
use Rattle.tv_machine.specs.Dialog.Rules.{is_free}
use Rattle.tv_machine.specs.Dialog.Modal.{Modal, with_line, content_at, content_put, leaf_at}

-- ---- the next control and the previous one

-- a control at which the focus may stop, if it is free
pub record Stop : Type 0 where
  pub id : Id
  pub is_free : Bool

-- the first free one
abbrev pub first_free : List Stop → Option Id
first_free stops = option_map (λ stop. stop.id) (find (λ stop. stop.is_free) stops)

-- how many stand before the focus
abbrev pub stop_place : List Stop → Id → ℕ
stop_place stops focus = unwrap_or (position (λ stop. stop.id.0 == focus.0) stops) (length stops)

-- those after the focus, and then those before it, as they come cyclically
abbrev pub others : List Stop → Id → List Stop
others stops focus = drop (stop_place stops focus + 1) stops ++ take (stop_place stops focus) stops

-- the next free one after the focus, cyclically; the focus where it alone is free
abbrev pub next_free : List Stop → Id → Id
next_free stops focus = unwrap_or (first_free (others stops focus)) focus

-- the previous free one before the focus, cyclically; the focus where it alone is free
abbrev pub previous_free : List Stop → Id → Id
previous_free stops focus = unwrap_or (first_free (reverse (others stops focus))) focus

-- a leaf as a stop
abbrev pub stop_of : Dialog → List LeafState → PlacedNode → Stop
stop_of d leaves leaf = record { id = leaf.node.id; is_free = is_free d leaves leaf }

-- the leaves of a dialog as stops
abbrev pub stops_of : Dialog → List LeafState → List Stop
stops_of d leaves = map (stop_of d leaves) (leaf_list d.views)

-- whether there is a leaf and it is free
abbrev pub is_free_leaf : Dialog → List LeafState → Option PlacedNode → Bool
is_free_leaf d leaves None = false
is_free_leaf d leaves (Some leaf) = is_free d leaves leaf

-- whether the control of an id is free
abbrev pub is_free_at : Dialog → List LeafState → Id → Bool
is_free_at d leaves i = is_free_leaf d leaves (leaf_at d i)

-- ---- texts outside their domains

-- an input whose text lies outside its domain
abbrev pub is_invalid : Kind → Content → Bool
is_invalid kind c = (behaviour kind).is_invalid c

-- an input that the focus may leave only with a text of its domain
abbrev pub validates : Kind → Bool
validates kind = (behaviour kind).validates

-- ---- a focus request

-- what a request comes to
pub data Request : Type 0 where
  -- it is the focus: granted, and nothing changes
  Same : Request
  NotFree : Request
  -- the focus is an input that it may not leave
  Refused : Request
  -- granted
  Moved : Request

-- whether it is granted
abbrev pub is_granted : Request → Bool
is_granted Same = true
is_granted NotFree = false
is_granted Refused = false
is_granted Moved = true

-- whether the focused leaf keeps the focus
abbrev pub keeps_focus : Modal → Option PlacedNode → Bool
keeps_focus m None = false
keeps_focus m (Some leaf) = validates leaf.node.kind && is_invalid leaf.node.kind (content_at m leaf.node.id)

-- the outcome: the first that holds
abbrev pub requested : Dialog → Modal → Id → Request
requested d m to =
    if to.0 == m.focus.0 then Same
    else if not (is_free_at d m.leaves to) then NotFree
    else if keeps_focus m (leaf_at d m.focus) then Refused
    else Moved

-- an input holds what an edit makes of it
abbrev pub edited_at : Dialog → Id → (Edit → Edit) → Modal → Modal
edited_at d i edit m = content_put d i (edit_content (edit (edit_of (content_at m i)))) m

-- what the coming or going of the focus makes of a leaf by its kind: of an input an edit, of other leaves
-- nothing
abbrev pub refocused_kind : Dialog → (Edit → Edit) → Id → Kind → Modal → Modal
refocused_kind d edit i kind m = if (behaviour kind).is_edited then edited_at d i edit m else m

-- the same for the leaf that was found
abbrev pub refocused : Dialog → (Edit → Edit) → Option PlacedNode → Modal → Modal
refocused d edit None m = m
refocused d edit (Some leaf) m = refocused_kind d edit leaf.node.id leaf.node.kind m

-- the focus moves: an input that loses it has nothing selected, one that receives it has its whole text
-- selected
abbrev pub focus_moved : Dialog → Id → Modal → Modal
focus_moved d to m =
    with_line (lines.Focus to)
    (record (refocused d entered (leaf_at d to) (refocused d left (leaf_at d m.focus) m)) { focus = to })

-- what a request with this outcome makes of the dialog
abbrev pub after_request : Dialog → Id → Request → Modal → Modal
after_request d to Same m = m
after_request d to NotFree m = m
after_request d to Refused m = with_line (lines.Invalid m.focus) m
after_request d to Moved m = focus_moved d to m

-- the control of the id asks for the focus
abbrev pub request : Dialog → Id → Modal → Modal
request d to m = after_request d to (requested d m to) m

-- the same, and where it is granted what follows
abbrev pub request_then : Dialog → Id → (Modal → Modal) → Modal → Modal
request_then d to follow m = if is_granted (requested d m to) then follow (request d to m) else request d to m
