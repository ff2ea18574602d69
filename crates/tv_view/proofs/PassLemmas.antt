-- A leaf that passes an event on stays as it is.
use Rattle.std.proofs.Common.{◌≡◌, Bool, true, false, ◌&&◌, ℕ, Option, Some, None, if◌then◌else◌, refl}
use Rattle.tv_cells.specs.declared.rect.Point.{Point}
use Rattle.tv_event.specs.declared.event.Event.{Event}
use Rattle.tv_event.specs.declared.event.Event.TheVariants as events
use Rattle.tv_event.specs.declared.event.Phase.{Phase}
use Rattle.tv_event.specs.declared.event.Phase.TheVariants as phases
use Rattle.tv_model.specs.declared.command.CommandSpec.{CommandSpec}
use Rattle.tv_model.specs.Description.Commands.{command_of}
use Rattle.tv_view.specs.Meaning.{Leaf, holds_mouse}
use Rattle.tv_model.specs.Controls.Behaviour.{Answer, Passed, Becomes, Presses}
use Rattle.tv_machine.specs.Controls.Tables.{key_answer, up_answer}
use Rattle.tv_view.specs.declared.env.Env.{Env}
use Rattle.tv_view.specs.declared.reaction.Reaction.TheVariants.{Pass, Done, Capture, Release}
use Rattle.tv_view.specs.Effects.{StaysWherePassed, handled, with_answer, captured, lifted}
use Rattle.tv_view.specs.Fields.{content_of}
use Rattle.tv_view.specs.Points.{leaf_has_point, row_of}
use Rattle.tv_view.specs.Reactions.{answer, press_by, consumed, focus_answer, captures, focus_on, down_focus, release_answer, lifted_answer, may_mark_by}

-- what is consumed isn't passed on
consumes : (leaf : Leaf) (marks : Bool) → consumed leaf marks ≡ Pass → ⊥
consumes leaf true e = cc
consumes leaf false e = cc

press_consumes : (leaf : Leaf) (o : Option CommandSpec) → press_by leaf o ≡ Pass → ⊥
press_consumes leaf None e = cc
press_consumes leaf (Some command) e = cc

release_consumes : (leaf : Leaf) (a : Answer) → release_answer leaf a ≡ Pass → ⊥
release_consumes leaf Passed e = cc
release_consumes leaf (Becomes content) e = cc
release_consumes leaf Presses e = press_consumes leaf (command_of leaf.node.kind) e

-- ---- by event

key_stays : (leaf : Leaf) (marks : Bool) (a : Answer) → StaysWherePassed (focus_answer leaf marks a) leaf (with_answer a leaf)
key_stays leaf marks Passed e = refl
key_stays leaf marks (Becomes content) e = absurd (consumes leaf marks e)
key_stays leaf marks Presses e = refl

down_stays : (env : Env) (p : Point) (leaf : Leaf) (b : Bool)
    → StaysWherePassed (if b then Capture leaf.node.id else focus_on (down_focus env leaf)) leaf (if b then captured env p leaf else leaf)
down_stays env p leaf true e = cc
down_stays env p leaf false e = refl

move_stays : (leaf after : Leaf) (holding inside : Bool) → StaysWherePassed (if holding then Done else Pass) leaf (if holding && inside then after else leaf)
move_stays leaf after true inside e = cc
move_stays leaf after false inside e = refl

up_stays : (p : Point) (leaf : Leaf) (held : Option ℕ) → StaysWherePassed (lifted_answer leaf p held) leaf (lifted p held leaf)
up_stays p leaf None e = refl
up_stays p leaf (Some item) e = absurd (of (leaf_has_point leaf p) e)
  where
    of : (b : Bool) → (if b then release_answer leaf (up_answer leaf.node.kind item (row_of leaf p) (content_of leaf)) else Release) ≡ Pass → ⊥
    of true r = release_consumes leaf (up_answer leaf.node.kind item (row_of leaf p) (content_of leaf)) r
    of false r = cc

-- for every event, phase, environment and leaf
pub passed_stays : (e : Event) (p : Phase) (env : Env) (leaf : Leaf) → StaysWherePassed (answer e p env leaf) leaf (handled e p env leaf)
unfolding answer handled
passed_stays (events.Key k) phases.Focused env leaf = key_stays leaf (may_mark_by leaf.node.kind k (content_of leaf)) (key_answer leaf.node.kind k (content_of leaf))
passed_stays (events.Key k) phases.Pre env leaf = λ e. refl
passed_stays (events.Key k) phases.Post env leaf = λ e. refl
passed_stays (events.Down point) p env leaf = down_stays env point leaf (captures leaf leaf.node.kind)
passed_stays (events.Move point) p env leaf = move_stays leaf _ (holds_mouse leaf) (leaf_has_point leaf point)
passed_stays (events.Up point) p env leaf = up_stays point leaf leaf.held
passed_stays (events.Command c) p env leaf = λ e. refl
passed_stays (events.Broadcast c) p env leaf = λ e. refl
