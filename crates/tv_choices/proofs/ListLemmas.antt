-- What a mouse down is to lists, and keys before and after the focus gets them.
use Rattle.std.proofs.Common.{◌≡◌, ◌∙◌, ◌⊎◌, ℕ, IsTrue, Option, ap, if◌then◌else◌, inl, inr, refl, true}
use Rattle.std.proofs.lemmas.Bool.{false≢true}
use Rattle.tv_choices.specs.Choices.{is_list}
use Rattle.tv_event.specs.declared.event.Key.{Key}
use Rattle.tv_event.specs.declared.event.Phase.{Phase}
use Rattle.tv_event.specs.declared.event.Phase.TheVariants as phases
use Rattle.tv_view.specs.Meaning.{Leaf}
use Rattle.tv_model.specs.declared.kind.Kind.{Kind}
use Rattle.tv_model.specs.declared.kind.Kind.TheVariants as kinds
use Rattle.tv_view.specs.Reactions.{calling_letter, captures, down_answer, down_focus, focus_on, keyed_answer, letter_answer}
use Rattle.tv_view.specs.declared.env.Env.{Env}
use Rattle.tv_view.specs.declared.reaction.Reaction.TheVariants.{Capture, Pass}

-- a list has no letters
list-letter : (env : Env) (leaf : Leaf) (kind : Kind) → IsTrue (is_list kind) → (letter : Option ℕ) → letter_answer env leaf kind letter ≡ Pass
list-letter env leaf (kinds.List list) own letter = refl
list-letter env leaf _ own letter = absurd (false≢true own)

pub list-called : (env : Env) (leaf : Leaf) (k : Key) → IsTrue (is_list leaf.node.kind)
    → (p : Phase) → (p ≡ phases.Pre) ⊎ (p ≡ phases.Post) → keyed_answer env leaf k p ≡ Pass
list-called env leaf k own p (inl before) = ap (λ phase. keyed_answer env leaf k phase) before ∙ list-letter env leaf leaf.node.kind own (calling_letter phases.Pre k)
list-called env leaf k own p (inr after) = ap (λ phase. keyed_answer env leaf k phase) after ∙ list-letter env leaf leaf.node.kind own (calling_letter phases.Post k)

-- one that has the focus captures the mouse
list-captures : (leaf : Leaf) (kind : Kind) → IsTrue (is_list kind) → captures leaf kind ≡ leaf.is_focused
list-captures leaf (kinds.List list) own = refl
list-captures leaf _ own = absurd (false≢true own)

pub list-down : (env : Env) (leaf : Leaf) → IsTrue (is_list leaf.node.kind) → leaf.is_focused ≡ true → down_answer env leaf ≡ Capture leaf.node.id
list-down env leaf own focused =
    ap (λ b. if b then Capture leaf.node.id else focus_on (down_focus env leaf)) (list-captures leaf leaf.node.kind own ∙ focused)
