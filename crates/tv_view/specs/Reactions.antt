-- What a leaf answers to an event, by its kind. Its owner decides whether it gets the event at all.
use Rattle.std.specs.Prelude.{ℕ, Bool, false, not, ◌&&◌, ◌||◌, List, length, Option, Some, None, ◌==◌}
use Rattle.std.specs.Prelude.{if◌then◌else◌}
use Rattle.tv_cells.specs.declared.rect.Point.{Point}
use Rattle.tv_event.specs.Commands.{cm_default}
use Rattle.tv_event.specs.declared.event.Command.{Command}
use Rattle.tv_event.specs.declared.event.Event.{Event}
use Rattle.tv_event.specs.declared.event.Event.TheVariants as events
use Rattle.tv_event.specs.declared.event.Key.{Key}
use Rattle.tv_event.specs.declared.event.Key.TheVariants as keys
use Rattle.tv_event.specs.declared.event.Phase.{Phase}
use Rattle.tv_event.specs.declared.event.Phase.TheVariants as phases
use Rattle.tv_model.specs.declared.node.Id.{Id}
use Rattle.tv_model.specs.declared.kind.Kind.{Kind}
use Rattle.tv_model.specs.Kinds.{behaviour}
use Rattle.tv_model.specs.Controls.Behaviour.{Down, Ignores, FocusesLink, Grips, Holds, Answer, Passed}
use Rattle.tv_model.specs.Controls.Behaviour.{Becomes, Presses}
use Rattle.tv_model.specs.Controls.Shortcut.{Shortcut, NoMark, LinkMark, PressMark, ItemMarks, item_marking}
use Rattle.tv_model.specs.Controls.Shortcut.{ClusterKind}
use Rattle.tv_model.specs.declared.command.CommandSpec.{CommandSpec}
use Rattle.tv_model.specs.declared.kind.MarkedText.{MarkedText}
use Rattle.tv_model.specs.Description.Commands.{command_number, command_of}
use Rattle.tv_model.specs.Description.Marks.{marks, upper}
use Rattle.tv_model.specs.Description.Nodes.{is_button, is_control}
use Rattle.tv_model.specs.Kinds.Cluster.{cluster_key, may_change, selected_of}
use Rattle.tv_view.specs.Meaning.{Leaf, holds_mouse}
use Rattle.tv_model.specs.Controls.Contents.{Content}
use Rattle.tv_machine.specs.Controls.Tables.{key_answer, up_answer}
use Rattle.tv_view.specs.declared.env.Env.{Env}
use Rattle.tv_view.specs.declared.reaction.Reaction.{Reaction}
use Rattle.tv_view.specs.declared.reaction.Reaction.TheVariants.{Pass, Done, Focus, FocusPress, Post}
use Rattle.tv_view.specs.declared.reaction.Reaction.TheVariants.{Changed, Capture, Release}
use Rattle.tv_view.specs.Colours.{is_lent_default, linked_by}
use Rattle.tv_view.specs.Fields.{content_of}
use Rattle.tv_view.specs.Points.{leaf_has_point, row_of}

-- ---- presses and links

-- a button that is pressed posts its command
abbrev pub post_of : Leaf → CommandSpec → Reaction
post_of leaf command = Post leaf.node.id (record { 0 = command_number command })

-- what a leaf answers where it is pressed: without a command nothing is asked for
abbrev pub press_by : Leaf → Option CommandSpec → Reaction
press_by leaf None = Done
press_by leaf (Some command) = post_of leaf command

-- the same by its kind
abbrev pub press_of : Leaf → Kind → Reaction
press_of leaf kind = press_by leaf (command_of kind)

-- the focus for a link, if there is one
abbrev pub focus_on : Option Id → Reaction
focus_on None = Pass
focus_on (Some id) = Focus id

-- ---- letters

-- the letter by which a key calls a view from any focus: with Alt before the focus gets the key, a plain one
-- after it
abbrev pub calling_letter : Phase → Key → Option ℕ
calling_letter phases.Pre (keys.Alt ch) = Some ch
calling_letter phases.Post (keys.Char ch) = Some ch
calling_letter _ _ = None

-- the text marks that letter, in either case
abbrev pub calls : MarkedText → Option ℕ → Bool
calls text None = false
calls text (Some ch) = marks (upper ch) text

-- the item that marks it
abbrev pub called_item : List MarkedText → Option ℕ → Option ℕ
called_item items None = None
called_item items (Some ch) = item_marking items ch

-- a letter from another focus asks for the focus and the item
abbrev pub item_call : Leaf → Option ℕ → Reaction
item_call leaf None = Pass
item_call leaf (Some item) = FocusPress leaf.node.id item

-- a letter from any focus: a label asks for the focus of its link, a button is pressed, a cluster asks for
-- the item
abbrev pub shortcut_answer : Env → Leaf → Kind → Shortcut → Option ℕ → Reaction
shortcut_answer env leaf kind NoMark letter = Pass
shortcut_answer env leaf kind (LinkMark text name) letter =
    if calls text letter then focus_on (linked_by env leaf.node.kind) else Pass
shortcut_answer env leaf kind (PressMark text name) letter =
    if calls text letter then press_of leaf kind else Pass
shortcut_answer env leaf kind (ItemMarks cluster name items) letter =
    item_call leaf (called_item items letter)

-- the same by its kind
abbrev pub letter_answer : Env → Leaf → Kind → Option ℕ → Reaction
letter_answer env leaf kind letter = shortcut_answer env leaf kind (behaviour kind).shortcut letter

-- ---- keys

-- whether a key of a cluster may change a mark
abbrev pub may_mark : ClusterKind → List MarkedText → Key → Content → Bool
may_mark kind items k c = may_change kind (cluster_key items (length items) (selected_of kind c) k)

-- only clusters have marks
abbrev pub may_mark_in : Shortcut → Key → Content → Bool
may_mark_in (ItemMarks kind name items) k c = may_mark kind items k c
may_mark_in _ k c = false

-- the same for a leaf by its kind
abbrev pub may_mark_by : Kind → Key → Content → Bool
may_mark_by kind k c = may_mark_in (behaviour kind).shortcut k c

-- the key was consumed, and where it may have changed a mark the rules are to be applied
abbrev pub consumed : Leaf → Bool → Reaction
consumed leaf marks = if marks then Changed leaf.node.id else Done

-- a key in the focus, by what the control does with it and whether that may change a mark
abbrev pub focus_answer : Leaf → Bool → Answer → Reaction
focus_answer leaf marks Passed = Pass
focus_answer leaf marks (Becomes content) = consumed leaf marks
focus_answer leaf marks Presses = press_of leaf leaf.node.kind

-- a key in a phase
abbrev pub keyed_answer : Env → Leaf → Key → Phase → Reaction
keyed_answer env leaf k phases.Focused =
    focus_answer leaf (may_mark_by leaf.node.kind k (content_of leaf))
    (key_answer leaf.node.kind k (content_of leaf))
keyed_answer env leaf k phases.Pre = letter_answer env leaf leaf.node.kind (calling_letter phases.Pre k)
keyed_answer env leaf k phases.Post = letter_answer env leaf leaf.node.kind (calling_letter phases.Post k)

-- ---- the mouse

-- by what a mouse down asks for
abbrev pub captures_by : Leaf → Down → Bool
captures_by leaf Ignores = false
captures_by leaf (FocusesLink name) = false
captures_by leaf (Grips grabs) = not grabs || leaf.is_focused
captures_by leaf Holds = leaf.is_focused

-- whether a mouse down makes the leaf hold the mouse: a control that has the focus, or a button that doesn't
-- want it
abbrev pub captures : Leaf → Kind → Bool
captures leaf kind = captures_by leaf (behaviour kind).down

-- the focus that a mouse down asks for: a control its own, a label that of its link
abbrev pub down_focus : Env → Leaf → Option Id
down_focus env leaf = if is_control leaf.node.kind then Some leaf.node.id else linked_by env leaf.node.kind

-- a mouse down
abbrev pub down_answer : Env → Leaf → Reaction
down_answer env leaf =
    if captures leaf leaf.node.kind then Capture leaf.node.id else focus_on (down_focus env leaf)

-- a move is consumed by the leaf that holds the mouse
abbrev pub move_answer : Leaf → Reaction
move_answer leaf = if holds_mouse leaf then Done else Pass

-- a release inside the leaf, by what the control does with it: an item was pressed, or the button
abbrev pub release_answer : Leaf → Answer → Reaction
release_answer leaf Passed = Release
release_answer leaf (Becomes content) = Changed leaf.node.id
release_answer leaf Presses = press_of leaf leaf.node.kind

-- an up, where the leaf holds the mouse and remembers an item
abbrev pub lifted_answer : Leaf → Point → Option ℕ → Reaction
lifted_answer leaf p None = Pass
lifted_answer leaf p (Some item) =
    if leaf_has_point leaf p
    then release_answer leaf (up_answer leaf.node.kind item (row_of leaf p) (content_of leaf))
    else Release

-- ---- commands

-- the default button is pressed by the broadcast that Enter becomes, while it is enabled
abbrev pub broadcast_answer : Env → Leaf → Command → Reaction
broadcast_answer env leaf c =
    if is_button leaf.node.kind
    && ((c.0 == cm_default) && (is_lent_default env leaf.node.id && leaf.is_enabled))
    then press_of leaf leaf.node.kind
    else Pass

-- ---- events

-- what a leaf answers; `Pass` exactly where it didn't consume the event
unfoldable pub answer : Event → Phase → Env → Leaf → Reaction
answer (events.Key k) p env leaf = keyed_answer env leaf k p
answer (events.Down point) p env leaf = down_answer env leaf
answer (events.Move point) p env leaf = move_answer leaf
answer (events.Up point) p env leaf = lifted_answer leaf point leaf.held
answer (events.Command c) p env leaf = Pass
answer (events.Broadcast c) p env leaf = broadcast_answer env leaf c
