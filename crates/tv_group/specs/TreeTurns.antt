-- How a dialog hands an event to its views, and what it does with their answers.
use Rattle.std.specs.Prelude.{◌≡◌, ℕ, List, length, Option, Some, None, option_map, if◌then◌else◌}
use Rattle.tv_event.specs.declared.event.Event.{Event}
use Rattle.tv_event.specs.declared.event.Phase.TheVariants as phases
use Rattle.tv_model.specs.declared.node.Id.{Id}
use Rattle.tv_model.specs.declared.kind.Kind.{Kind}
use Rattle.tv_model.specs.Kinds.{behaviour}
use Rattle.tv_model.specs.Controls.Shortcut.{Shortcut, ItemMarks, ClusterKind}
use Rattle.tv_model.specs.declared.desc.Dialog.{Dialog}
use Rattle.tv_model.specs.declared.log.LogLine.TheVariants as lines
use Rattle.tv_model.specs.Controls.Contents.{is_item_place}
use Rattle.tv_view.specs.Meaning.{Placed}
use Rattle.tv_model.specs.Kinds.Cluster.{cluster_item_pressed}
use Rattle.tv_machine.specs.Leaves.{PlacedNode}
use Rattle.tv_machine.specs.Dialog.Ending.{command}
use Rattle.tv_machine.specs.Dialog.Focus.{request, request_then}
use Rattle.tv_machine.specs.Dialog.Keys.{enter_target}
use Rattle.tv_machine.specs.Dialog.Modal.{Modal, content_at, leaf_at, content_put, with_line}
use Rattle.tv_view.specs.declared.env.Env.{Env}
use Rattle.tv_view.specs.declared.reaction.Reaction.{Reaction}
use Rattle.tv_view.specs.declared.reaction.Reaction.TheVariants as reactions
use Rattle.tv_group.specs.Handling.{group_after, group_answer, is_pass}

-- what the dialog lends its views while an event is handled: the views of its description, the focus that
-- there was when the
-- event came, and the button that Enter presses then
pub record IsLentBy (d : Dialog) (m : Modal) (env : Env) : Type 0 where
  pub views : env.views.now ≡ d.views
  pub focus : env.focus ≡ Some m.focus
  pub default_now : env.default_now ≡ option_map (λ leaf. leaf.node.id) (enter_target d m)

-- ---- three phases

-- the first answer that isn't `Pass`
abbrev pub first_taken : Reaction → Reaction → Reaction
first_taken first second = if is_pass first then second else first

-- an event in three phases: to those that mark letters, to the current leaf, and to those that mark letters
-- again, until one
-- takes it
abbrev pub phases_answer : Event → Env → List Placed → Reaction
phases_answer e env xs =
    first_taken (group_answer e phases.Pre env xs)
    (first_taken (group_answer e phases.Focused env xs) (group_answer e phases.Post env xs))

-- the leaf that takes it alone changes
abbrev pub phases_after : Event → Env → List Placed → List Placed
phases_after e env xs =
    if is_pass (group_answer e phases.Pre env xs) then
    (if is_pass (group_answer e phases.Focused env xs) then group_after e phases.Post env xs
    else group_after e phases.Focused env xs)
    else group_after e phases.Pre env xs

-- ---- what views ask for

-- a cluster of so many items has the item pressed, if it has it
abbrev pub cluster_pressed_at : Dialog → ClusterKind → ℕ → Id → ℕ → Modal → Modal
cluster_pressed_at d kind count i item m =
    if is_item_place count item then content_put d i (cluster_item_pressed kind item (content_at m i)) m
    else m

-- only clusters have items to press
abbrev pub shortcut_pressed_at : Dialog → Shortcut → Id → ℕ → Modal → Modal
shortcut_pressed_at d (ItemMarks kind name items) i item m = cluster_pressed_at d kind (length items) i item m
shortcut_pressed_at d _ i item m = m

-- by kind
abbrev pub kind_pressed_at : Dialog → Kind → Id → ℕ → Modal → Modal
kind_pressed_at d kind i item m = shortcut_pressed_at d (behaviour kind).shortcut i item m

-- the leaf that was found
abbrev pub leaf_pressed : Dialog → Option PlacedNode → ℕ → Modal → Modal
leaf_pressed d None item m = m
leaf_pressed d (Some leaf) item m = kind_pressed_at d leaf.node.kind leaf.node.id item m

-- the cluster of the id has the item pressed
abbrev pub pressed_at : Dialog → Id → ℕ → Modal → Modal
pressed_at d i item m = leaf_pressed d (leaf_at d i) item m

-- the machine's dialog after what a view answered: a pressed button's command is handled with no other event
-- between
abbrev pub reacted : Dialog → Reaction → Modal → Modal
reacted d reactions.Pass m = m
reacted d reactions.Done m = m
reacted d (reactions.Focus i) m = request d i m
reacted d (reactions.FocusPress i item) m = request_then d i (pressed_at d i item) m
reacted d (reactions.Post i c) m = command d c.0 (with_line (lines.Press i) m)
reacted d (reactions.Changed i) m = m
reacted d (reactions.Capture i) m = m
reacted d reactions.Release m = m
