-- Who in a group is offered an event, what the group answers, and what its leaves become.
use Rattle.std.specs.Prelude.{Bool, true, false, not, ◌&&◌, List, [], ◌∷◌, find, reverse, Option, Some, None}
use Rattle.std.specs.Prelude.{if◌then◌else◌}
use Rattle.tv_cells.specs.Layers.{is_in}
use Rattle.tv_cells.specs.declared.rect.Point.{Point}
use Rattle.tv_cells.specs.declared.rect.Rect.{Rect}
use Rattle.tv_event.specs.declared.event.Event.{Event}
use Rattle.tv_event.specs.declared.event.Event.TheVariants as events
use Rattle.tv_event.specs.declared.event.Phase.{Phase}
use Rattle.tv_event.specs.declared.event.Phase.TheVariants as phases
use Rattle.tv_model.specs.declared.kind.Kind.{Kind}
use Rattle.tv_model.specs.Kinds.{behaviour}
use Rattle.tv_model.specs.Controls.Shortcut.{has_marks}
use Rattle.tv_view.specs.Meaning.{Leaf, Placed}
use Rattle.tv_view.specs.declared.env.Env.{Env}
use Rattle.tv_view.specs.declared.reaction.Reaction.{Reaction}
use Rattle.tv_view.specs.declared.reaction.Reaction.TheVariants as reactions
use Rattle.tv_view.specs.declared.reaction.Reaction.TheVariants.{Pass}
use Rattle.tv_view.specs.Effects.{handled}
use Rattle.tv_view.specs.Points.{leaf_has_point, moved_into, point_into}
use Rattle.tv_view.specs.Reactions.{answer}

-- ---- places

-- an event as a leaf sees it, through the groups around it from the outermost in
abbrev pub seen_through : List Rect → Event → Event
seen_through [] e = e
seen_through (bounds ∷ around) e = seen_through around (moved_into bounds e)

-- every group around the leaf has the point, and so has the leaf
abbrev pub point_reaches : Point → List Rect → Leaf → Bool
point_reaches p [] leaf = leaf_has_point leaf p
point_reaches p (bounds ∷ around) leaf =
    is_in bounds p.x p.y && point_reaches (point_into bounds p) around leaf

-- ---- what the first of a kind does

-- the first that is so changes, and no other
abbrev pub first_changed : {A : Type 0} → (A → Bool) → (A → A) → List A → List A
first_changed is_so change [] = []
first_changed is_so change (x ∷ xs) = if is_so x then change x ∷ xs else x ∷ first_changed is_so change xs

-- the last that is so changes, and no other
abbrev pub last_changed : {A : Type 0} → (A → Bool) → (A → A) → List A → List A
last_changed is_so change xs = reverse (first_changed is_so change (reverse xs))

-- ---- turns

-- shown and enabled: no other leaf gets keys and commands
abbrev pub is_awake : Leaf → Bool
is_awake leaf = leaf.is_shown && leaf.is_enabled

-- what may mark letters is asked before the current leaf and after it (ofPreProcess, ofPostProcess)
abbrev pub marks_letters : Kind → Bool
marks_letters kind = has_marks (behaviour kind).shortcut

-- whose turn a phase is
abbrev pub has_turn : Phase → Placed → Bool
has_turn phases.Pre x = marks_letters x.leaf.node.kind
has_turn phases.Focused x = x.is_current
has_turn phases.Post x = marks_letters x.leaf.node.kind

-- keys and commands are offered by turns; moves, ups and broadcasts to all, hidden and disabled ones too. A
-- mouse down goes to
-- the topmost leaf alone, below
abbrev pub is_offered : Event → Phase → Placed → Bool
is_offered (events.Key k) p x = is_awake x.leaf && has_turn p x
is_offered (events.Command c) p x = is_awake x.leaf && has_turn p x
is_offered (events.Move point) p x = true
is_offered (events.Up point) p x = true
is_offered (events.Broadcast c) p x = true
is_offered (events.Down point) p x = false

-- ---- one leaf

-- whether the event goes on to others
abbrev pub is_pass : Reaction → Bool
is_pass reactions.Pass = true
is_pass reactions.Done = false
is_pass (reactions.Focus i) = false
is_pass (reactions.FocusPress i item) = false
is_pass (reactions.Post i c) = false
is_pass (reactions.Changed i) = false
is_pass (reactions.Capture i) = false
is_pass reactions.Release = false

-- what a leaf in its place answers
abbrev pub placed_answer : Event → Phase → Env → Placed → Reaction
placed_answer e p env x = answer (seen_through x.around e) p env x.leaf

-- what it becomes
abbrev pub placed_after : Event → Phase → Env → Placed → Placed
placed_after e p env x = record x { leaf = handled (seen_through x.around e) p env x.leaf }

-- ---- events that are offered one after the other

-- it is offered the event and consumes it
abbrev pub takes : Event → Phase → Env → Placed → Bool
takes e p env x = is_offered e p x && not (is_pass (placed_answer e p env x))

-- the answer of the leaf that was found
abbrev pub found_answer : Event → Phase → Env → Option Placed → Reaction
found_answer e p env None = Pass
found_answer e p env (Some x) = placed_answer e p env x

-- the first that takes the event answers
abbrev pub scan_answer : Event → Phase → Env → List Placed → Reaction
scan_answer e p env xs = found_answer e p env (find (takes e p env) xs)

-- it alone changes
abbrev pub scan_after : Event → Phase → Env → List Placed → List Placed
scan_after e p env xs = first_changed (takes e p env) (placed_after e p env) xs

-- ---- mouse downs

-- a shown leaf at the point
abbrev pub is_hit : Point → Placed → Bool
is_hit p x = x.leaf.is_shown && point_reaches p x.around x.leaf

-- the topmost shown leaf at the point, which is the last; a pane that has none there is looked through
abbrev pub topmost : Point → List Placed → Option Placed
topmost p xs = find (is_hit p) (reverse xs)

-- what it answers: a disabled one gets nothing, and then no other does
abbrev pub hit_answer : Event → Phase → Env → Option Placed → Reaction
hit_answer e p env None = Pass
hit_answer e p env (Some x) = if x.leaf.is_enabled then placed_answer e p env x else Pass

-- what it becomes
abbrev pub hit_after : Event → Phase → Env → Placed → Placed
hit_after e p env x = if x.leaf.is_enabled then placed_after e p env x else x

-- ---- groups

-- what a group answers to an event
unfoldable pub group_answer : Event → Phase → Env → List Placed → Reaction
group_answer (events.Down point) p env xs = hit_answer (events.Down point) p env (topmost point xs)
group_answer (events.Key k) p env xs = scan_answer (events.Key k) p env xs
group_answer (events.Command c) p env xs = scan_answer (events.Command c) p env xs
group_answer (events.Move point) p env xs = scan_answer (events.Move point) p env xs
group_answer (events.Up point) p env xs = scan_answer (events.Up point) p env xs
group_answer (events.Broadcast c) p env xs = scan_answer (events.Broadcast c) p env xs

-- what its leaves become
unfoldable pub group_after : Event → Phase → Env → List Placed → List Placed
group_after (events.Down point) p env xs =
    last_changed (is_hit point) (hit_after (events.Down point) p env) xs
group_after (events.Key k) p env xs = scan_after (events.Key k) p env xs
group_after (events.Command c) p env xs = scan_after (events.Command c) p env xs
group_after (events.Move point) p env xs = scan_after (events.Move point) p env xs
group_after (events.Up point) p env xs = scan_after (events.Up point) p env xs
group_after (events.Broadcast c) p env xs = scan_after (events.Broadcast c) p env xs
