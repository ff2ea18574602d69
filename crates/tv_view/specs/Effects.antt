-- What an event makes of a leaf: what the machine's tables make of what it holds, and whether it holds the
-- mouse.
use Rattle.std.specs.Prelude.{◌≡◌, ℕ, ◌&&◌, Option, Some, None, if◌then◌else◌}
use Rattle.tv_cells.specs.declared.rect.Point.{Point}
use Rattle.tv_event.specs.declared.event.Event.{Event}
use Rattle.tv_event.specs.declared.event.Event.TheVariants as events
use Rattle.tv_event.specs.declared.event.Key.{Key}
use Rattle.tv_event.specs.declared.event.Phase.{Phase}
use Rattle.tv_event.specs.declared.event.Phase.TheVariants as phases
use Rattle.tv_model.specs.Description.Numbers.{natural}
use Rattle.tv_model.specs.Kinds.InputLine.{first_shown, cursor_of}
use Rattle.tv_view.specs.Meaning.{Leaf, holds_mouse}
use Rattle.tv_model.specs.Controls.Behaviour.{Answer, Passed, Becomes, Presses}
use Rattle.tv_machine.specs.Controls.Tables.{key_answer, remembered, down_content, move_content, up_answer}
use Rattle.tv_view.specs.declared.env.Env.{Env}
use Rattle.tv_view.specs.declared.reaction.Reaction.{Reaction}
use Rattle.tv_view.specs.declared.reaction.Reaction.TheVariants.{Pass}
use Rattle.tv_view.specs.Colours.{has_focus}
use Rattle.tv_view.specs.Fields.{content_of, with_content}
use Rattle.tv_view.specs.Points.{leaf_has_point, column_of, row_of}
use Rattle.tv_view.specs.Reactions.{captures}

-- the leaf with what a control made of a key or a release; one that passed it on or is pressed stays as it is
abbrev pub with_answer : Answer → Leaf → Leaf
with_answer Passed leaf = leaf
with_answer (Becomes content) leaf = with_content content leaf
with_answer Presses leaf = leaf

-- a key is of use to the control that has the focus
abbrev pub leaf_keyed : Key → Phase → Leaf → Leaf
leaf_keyed k phases.Focused leaf = with_answer (key_answer leaf.node.kind k (content_of leaf)) leaf
leaf_keyed k phases.Pre leaf = leaf
leaf_keyed k phases.Post leaf = leaf

-- the first place that was shown when the event came: an input without the focus showed its start
abbrev pub first_shown_before : Env → Leaf → ℕ
first_shown_before env leaf =
    if has_focus env leaf.node.id then first_shown (natural leaf.node.w) (cursor_of leaf.private) else 0

-- the leaf holds the mouse from a down on, and remembers an item
abbrev pub captured : Env → Point → Leaf → Leaf
captured env p leaf =
    record (with_content (down_content leaf.node.kind (first_shown_before env leaf) (column_of leaf p)
    (row_of leaf p) (content_of leaf)) leaf) {
      held = Some (remembered leaf.node.kind (row_of leaf p));
    }

-- a move to a point inside the leaf, while it holds the mouse
abbrev pub moved : Point → Leaf → Leaf
moved p leaf =
    if holds_mouse leaf && leaf_has_point leaf p
    then with_content (move_content leaf.node.kind (row_of leaf p) (content_of leaf)) leaf
    else leaf

-- an up, where the leaf holds the mouse and remembers an item: it doesn't hold it any longer
abbrev pub lifted : Point → Option ℕ → Leaf → Leaf
lifted p None leaf = leaf
lifted p (Some item) leaf =
    record (if leaf_has_point leaf p
    then with_answer (up_answer leaf.node.kind item (row_of leaf p) (content_of leaf)) leaf else leaf) {
      held = None;
    }

-- what a leaf becomes by an event in a phase
unfoldable pub handled : Event → Phase → Env → Leaf → Leaf
handled (events.Key k) p env leaf = leaf_keyed k p leaf
handled (events.Down point) p env leaf =
    if captures leaf leaf.node.kind then captured env point leaf else leaf
handled (events.Move point) p env leaf = moved point leaf
handled (events.Up point) p env leaf = lifted point leaf.held leaf
handled (events.Command c) p env leaf = leaf
handled (events.Broadcast c) p env leaf = leaf

-- a leaf that passes an event on stays as it is
abbrev pub StaysWherePassed : Reaction → Leaf → Leaf → Type 0
StaysWherePassed reaction before after = reaction ≡ Pass → after ≡ before
