-- Which members of a group are asked, and what is answered where a leaf was hit.
use Rattle.std.specs.Prelude.{Bool, true, false, List, Option, Some, option_map}
use Rattle.tv_cells.specs.declared.rect.Point.{Point}
use Rattle.tv_event.specs.declared.event.Event.{Event}
use Rattle.tv_event.specs.declared.event.Event.TheVariants as events
use Rattle.tv_event.specs.declared.event.Phase.{Phase}
use Rattle.tv_event.specs.declared.event.Phase.TheVariants as phases
use Rattle.tv_view.specs.Meaning.{Placed}
use Rattle.tv_view.specs.declared.env.Env.{Env}
use Rattle.tv_view.specs.declared.reaction.Reaction.{Reaction}
use Rattle.tv_group.specs.Handling.{hit_answer, hit_after, is_hit, last_changed, topmost}

-- whether an event goes to every member in a phase: a key or a command in the focus goes to the current one
-- alone
abbrev pub goes_to_all : Event → Phase → Bool
goes_to_all (events.Key k) phases.Pre = true
goes_to_all (events.Key k) phases.Focused = false
goes_to_all (events.Key k) phases.Post = true
goes_to_all (events.Command c) phases.Pre = true
goes_to_all (events.Command c) phases.Focused = false
goes_to_all (events.Command c) phases.Post = true
goes_to_all (events.Move point) p = true
goes_to_all (events.Up point) p = true
goes_to_all (events.Broadcast c) p = true
goes_to_all (events.Down point) p = true

-- the answer of the leaf that a mouse down hits, `None` where it hits none
abbrev pub down_here : Point → Phase → Env → List Placed → Option Reaction
down_here point p env xs = option_map (λ x. hit_answer (events.Down point) p env (Some x)) (topmost point xs)

-- what the leaves become
abbrev pub down_after : Point → Phase → Env → List Placed → List Placed
down_after point p env xs = last_changed (is_hit point) (hit_after (events.Down point) p env) xs
