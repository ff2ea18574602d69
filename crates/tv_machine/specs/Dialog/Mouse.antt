-- The mouse while a dialog is open. Points are seen from the dialog's corner.
use Rattle.std.specs.Prelude.{ℕ, Bool, ◌&&◌, find, reverse, Option, Some, None, pos, ◌==◌, if◌then◌else◌}
use Rattle.std.specs.Int.{int_gap}
use Rattle.std.specs.Ordering.{int_eq}
use Rattle.tv_cells.specs.Layers.{is_in}
use Rattle.tv_cells.specs.declared.rect.Point.{Point}
use Rattle.tv_event.specs.Commands.{cm_close}
use Rattle.tv_model.specs.declared.kind.Kind.{Kind}
use Rattle.tv_model.specs.Kinds.{behaviour}
use Rattle.tv_model.specs.Controls.Behaviour.{Down, Ignores, FocusesLink, Grips, Holds, Answer, Passed}
use Rattle.tv_model.specs.Controls.Behaviour.{Becomes, Presses}
use Rattle.tv_model.specs.declared.desc.Dialog.{Dialog}
use Rattle.tv_model.specs.Description.Names.{meant}
use Rattle.tv_model.specs.Description.Numbers.{natural, is_between}
use Rattle.tv_model.specs.Kinds.InputLine.{first_shown, cursor_of}
use Rattle.tv_machine.specs.Leaves.{PlacedNode, leaf_list, rect_on}
use Rattle.tv_machine.specs.Controls.Tables.{remembered, down_content, move_content, up_answer}
use Rattle.tv_machine.specs.Dialog.Rules.{is_visible, is_enabled}
use Rattle.tv_machine.specs.Dialog.Focus.{request_then}
use Rattle.tv_machine.specs.Dialog.Ending.{command, press}
use Rattle.tv_machine.specs.Dialog.Shortcuts.{request_link}
use Rattle.tv_machine.specs.Dialog.Modal.{Modal, content_at, content_put}

-- ---- places

-- the leaf's rectangle has the point
abbrev pub is_inside : PlacedNode → Point → Bool
is_inside leaf p = is_in (rect_on leaf) p.x p.y

-- the column of a point, seen from the leaf's corner
abbrev pub column_on : PlacedNode → Point → ℕ
column_on leaf p = int_gap (rect_on leaf).a.x p.x

-- the row likewise
abbrev pub row_on : PlacedNode → Point → ℕ
row_on leaf p = int_gap (rect_on leaf).a.y p.y

-- a point of the close mark: the columns 2 to 4 of the top row
abbrev pub is_close_mark : Point → Bool
is_close_mark p = is_between (pos 2) (pos 4) p.x && int_eq p.y (pos 0)

-- the topmost visible leaf at a point: the last that has it
abbrev pub topmost_leaf : Dialog → Modal → Point → Option PlacedNode
topmost_leaf d m p =
    find (λ leaf. is_visible d m.leaves leaf && is_inside leaf p) (reverse (leaf_list d.views))

-- ---- down

-- the leaf holds the mouse, and remembers an item
abbrev pub hold : Dialog → PlacedNode → ℕ → Point → Modal → Modal
hold d leaf first p m =
    record (content_put d leaf.node.id
    (down_content leaf.node.kind first (column_on leaf p) (row_on leaf p)
    (content_at m leaf.node.id)) m) {
      held = Some (record { id = leaf.node.id; item = remembered leaf.node.kind (row_on leaf p) });
    }

-- the first place of an input's text that was shown when the mouse came: without the focus its start
abbrev pub first_before : Modal → PlacedNode → ℕ
first_before m leaf =
    if m.focus.0 == leaf.node.id.0
    then first_shown (natural leaf.node.w) (cursor_of (content_at m leaf.node.id).private)
    else 0

-- a control asks for the focus, and where that is granted it holds the mouse
abbrev pub focus_and_hold : Dialog → PlacedNode → Point → Modal → Modal
focus_and_hold d leaf p m = request_then d leaf.node.id (hold d leaf (first_before m leaf) p) m

-- a button holds the mouse, with the focus where it grabs it; a disabled one does nothing
abbrev pub button_down : Dialog → PlacedNode → Bool → Point → Modal → Modal
button_down d leaf grabs p m =
    if is_enabled d m.leaves leaf.node then (if grabs then focus_and_hold d leaf p m else hold d leaf 0 p m)
    else m

-- by what a mouse down asks for: a label asks for the focus of its link, and nothing holds the mouse
abbrev pub down_by : Dialog → PlacedNode → Down → Point → Modal → Modal
down_by d leaf Ignores p m = m
down_by d leaf (FocusesLink name) p m = request_link d (meant d.views name) m
down_by d leaf (Grips grabs) p m = button_down d leaf grabs p m
down_by d leaf Holds p m = focus_and_hold d leaf p m

-- by the kind of the leaf
abbrev pub down_on : Dialog → PlacedNode → Kind → Point → Modal → Modal
down_on d leaf kind p m = down_by d leaf (behaviour kind).down p m

-- on the topmost visible leaf, if there is one
abbrev pub down_at : Dialog → Option PlacedNode → Point → Modal → Modal
down_at d None p m = m
down_at d (Some leaf) p m = down_on d leaf leaf.node.kind p m

-- a mouse down on the dialog while nothing holds the mouse: the close mark gives the command `close`
abbrev pub down : Dialog → Point → Modal → Modal
down d p m = if is_close_mark p then command d cm_close m else down_at d (topmost_leaf d m p) p m

-- ---- move and up

-- a move to a point of the leaf that holds the mouse
abbrev pub moved_on : Dialog → PlacedNode → Point → Modal → Modal
moved_on d leaf p m =
    if is_inside leaf p
    then content_put d leaf.node.id (move_content leaf.node.kind (row_on leaf p) (content_at m leaf.node.id))
    m
    else m

-- the leaf that held the mouse answers to its release inside it
abbrev pub released : Dialog → PlacedNode → Answer → Modal → Modal
released d leaf Passed m = m
released d leaf (Becomes content) m = content_put d leaf.node.id content m
released d leaf Presses m = press d leaf m

-- an up: nothing holds the mouse any longer
abbrev pub up_on : Dialog → PlacedNode → ℕ → Point → Modal → Modal
up_on d leaf item p m =
    if is_inside leaf p then released d leaf
    (up_answer leaf.node.kind item (row_on leaf p) (content_at m leaf.node.id)) (record m { held = None })
    else record m { held = None }

-- a move while a leaf holds the mouse
abbrev pub held_moved : Dialog → Option PlacedNode → Point → Modal → Modal
held_moved d None p m = m
held_moved d (Some leaf) p m = moved_on d leaf p m

-- an up while a leaf holds the mouse
abbrev pub held_up : Dialog → Option PlacedNode → ℕ → Point → Modal → Modal
held_up d None item p m = record m { held = None }
held_up d (Some leaf) item p m = up_on d leaf item p m
