-- What calls are to a label, by its kind.
use Rattle.std.proofs.Common.{◌≡◌, IsTrue, refl, ap, if◌then◌else◌}
use Rattle.std.proofs.lemmas.Bool.{false≢true}
use Rattle.tv_event.specs.declared.event.Event.TheVariants as events
use Rattle.tv_event.specs.declared.event.Key.{Key}
use Rattle.tv_event.specs.declared.event.Phase.{Phase}
use Rattle.tv_event.specs.declared.event.Phase.TheVariants as phases
use Rattle.tv_model.specs.declared.kind.Label.{Label}
use Rattle.tv_model.specs.declared.kind.Kind.{Kind}
use Rattle.tv_model.specs.declared.kind.Kind.TheVariants as kinds
use Rattle.tv_view.specs.Meaning.{Leaf}
use Rattle.tv_machine.specs.Controls.Tables.{key_answer}
use Rattle.tv_view.specs.Fields.{content_of}
use Rattle.tv_view.specs.Colours.{linked_by}
use Rattle.tv_view.specs.Reactions.{answer, calling_letter, calls, focus_answer, focus_on, letter_answer, may_mark_by}
use Rattle.tv_view.specs.declared.env.Env.{Env}
use Rattle.tv_view.specs.declared.reaction.Reaction.TheVariants.{Pass}
use Rattle.tv_controls.specs.Label.{is_label}

-- what a label's line declares
pub label_of : (kind : Kind) → IsTrue (is_label kind) → (label : Label) × (kind ≡ kinds.Label label)
label_of (kinds.Label label) is = (label, refl)
label_of _ is = absurd (false≢true is)

-- a letter of its own asks for the focus of its link
pub label_answer : (k : Key) (p : Phase) (env : Env) (leaf : Leaf) (label : Label) → leaf.node.kind ≡ kinds.Label label
    → answer (events.Key k) p env leaf ≡ (if calls label.text (calling_letter p k) then focus_on (linked_by env leaf.node.kind) else Pass)
unfolding answer
label_answer k phases.Pre env leaf label is = ap (λ m. letter_answer env leaf m (calling_letter phases.Pre k)) is
label_answer k phases.Post env leaf label is = ap (λ m. letter_answer env leaf m (calling_letter phases.Post k)) is
label_answer k phases.Focused env leaf label is =
    ap (λ m. focus_answer leaf (may_mark_by m k (content_of leaf)) (key_answer m k (content_of leaf))) is
