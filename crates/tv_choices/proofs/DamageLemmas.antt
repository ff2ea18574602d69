-- No event changes the declaration of a leaf, and so not its rectangle.
use Rattle.std.proofs.Common.{◌≡◌, ◌&&◌, ℕ, Bool, true, false, None, Option, Some, if◌then◌else◌, refl}
use Rattle.tv_cells.specs.declared.rect.Point.{Point}
use Rattle.tv_event.specs.declared.event.Event.{Event}
use Rattle.tv_event.specs.declared.event.Event.TheVariants as events
use Rattle.tv_event.specs.declared.event.Key.{Key}
use Rattle.tv_event.specs.declared.event.Phase.{Phase}
use Rattle.tv_event.specs.declared.event.Phase.TheVariants as phases
use Rattle.tv_model.specs.Controls.Behaviour.{Answer, Becomes, Passed, Presses}
use Rattle.tv_view.specs.Effects.{captured, handled, leaf_keyed, lifted, with_answer}
use Rattle.tv_view.specs.Meaning.{Leaf, holds_mouse}
use Rattle.tv_view.specs.Points.{leaf_has_point}
use Rattle.tv_view.specs.Reactions.{captures}
use Rattle.tv_view.specs.declared.env.Env.{Env}

answer-node : (a : Answer) (leaf : Leaf) → (with_answer a leaf).node ≡ leaf.node
answer-node Passed leaf = refl
answer-node (Becomes content) leaf = refl
answer-node Presses leaf = refl

either-node : (b : Bool) (this that leaf : Leaf) → this.node ≡ leaf.node → that.node ≡ leaf.node → (if b then this else that).node ≡ leaf.node
either-node true this that leaf e f = e
either-node false this that leaf e f = f

key-node : (k : Key) (p : Phase) (leaf : Leaf) → (leaf_keyed k p leaf).node ≡ leaf.node
key-node k phases.Focused leaf = answer-node _ leaf
key-node k phases.Pre leaf = refl
key-node k phases.Post leaf = refl

up-node : (p : Point) (held : Option ℕ) (leaf : Leaf) → (lifted p held leaf).node ≡ leaf.node
up-node p None leaf = refl
up-node p (Some item) leaf = either-node (leaf_has_point leaf p) _ leaf leaf (answer-node _ leaf) refl

pub handled-node : (e : Event) (p : Phase) (env : Env) (leaf : Leaf) → (handled e p env leaf).node ≡ leaf.node
unfolding handled
handled-node (events.Key k) p env leaf = key-node k p leaf
handled-node (events.Down point) p env leaf = either-node (captures leaf leaf.node.kind) (captured env point leaf) leaf leaf refl refl
handled-node (events.Move point) p env leaf = either-node (holds_mouse leaf && leaf_has_point leaf point) _ leaf leaf refl refl
handled-node (events.Up point) p env leaf = up-node point leaf.held leaf
handled-node (events.Command c) p env leaf = refl
handled-node (events.Broadcast c) p env leaf = refl
