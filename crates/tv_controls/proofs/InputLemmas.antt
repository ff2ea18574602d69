-- What calls are to an input line, by its kind.
use Rattle.std.proofs.Common.{◌≡◌, ◌∙◌, ℕ, Bool, true, false, IsTrue, List, Option, Some, None, refl, ap, if◌then◌else◌}
use Rattle.std.proofs.lemmas.Bool.{false≢true}
use Rattle.tv_event.specs.declared.event.Event.TheVariants as events
use Rattle.tv_event.specs.declared.event.Key.{Key}
use Rattle.tv_event.specs.declared.event.Phase.{Phase}
use Rattle.tv_event.specs.declared.event.Phase.TheVariants as phases
use Rattle.tv_valid.specs.declared.domain.Domain.{Domain}
use Rattle.tv_model.specs.declared.kind.Kind.{Kind}
use Rattle.tv_model.specs.declared.kind.Kind.TheVariants as kinds
use Rattle.tv_model.specs.declared.record.Value.{Value}
use Rattle.tv_model.specs.declared.record.Value.TheVariants as values
use Rattle.tv_model.specs.Kinds.InputLine.{Edit, is_edit_key, edit_content, edited, edited_in}
use Rattle.tv_view.specs.Meaning.{Leaf}
use Rattle.tv_model.specs.Log.Record.{Entries, value_of}
use Rattle.tv_model.specs.Controls.Private.{Private, Editing}
use Rattle.tv_model.specs.Controls.Contents.{Content}
use Rattle.tv_machine.specs.Controls.Declared.{opened_private}
use Rattle.tv_model.specs.Controls.Behaviour.{Becomes, Passed}
use Rattle.tv_machine.specs.Controls.Tables.{key_answer}
use Rattle.tv_view.specs.Calls.{Fits, IsFieldValue, leaf_opened_with, set_from}
use Rattle.tv_view.specs.Effects.{leaf_keyed, with_answer}
use Rattle.tv_view.specs.Fields.{content_of, with_content}
use Rattle.tv_view.specs.Reactions.{answer, calling_letter, focus_answer, letter_answer, may_mark_by}
use Rattle.tv_view.specs.declared.env.Env.{Env}
use Rattle.tv_view.specs.declared.reaction.Reaction.TheVariants.{Done, Pass}
use Rattle.tv_view.specs.Core.{Core}
use Rattle.tv_controls.specs.InputLine.{asked_by, input_leaf, is_input, is_own_key, edit_opened}

-- ---- keys

module _ (k : Key) (env : Env) (leaf : Leaf) where
  -- no letter calls it
  uncalled : (letter : Option ℕ) (kind : Kind) → IsTrue (is_input kind) → letter_answer env leaf kind letter ≡ Pass
  uncalled letter (kinds.Input input) is = refl
  uncalled letter _ is = absurd (false≢true is)

  consumed_if : (b : Bool) (c : Content) → focus_answer leaf false (if b then Becomes c else Passed) ≡ (if b then Done else Pass)
  consumed_if true c = refl
  consumed_if false c = refl

  focused : (c : Content) (kind : Kind) → IsTrue (is_input kind)
      → focus_answer leaf (may_mark_by kind k c) (key_answer kind k c) ≡ (if is_edit_key k then Done else Pass)
  focused c (kinds.Input input) is = consumed_if (is_edit_key k) _
  focused c _ is = absurd (false≢true is)

-- it consumes its own keys
pub input_answer : (k : Key) (p : Phase) (env : Env) (leaf : Leaf) → IsTrue (is_input leaf.node.kind)
    → answer (events.Key k) p env leaf ≡ (if is_own_key p k then Done else Pass)
unfolding answer
input_answer k phases.Focused env leaf own = focused k env leaf (content_of leaf) leaf.node.kind own
input_answer k phases.Pre env leaf own = uncalled k env leaf (calling_letter phases.Pre k) leaf.node.kind own
input_answer k phases.Post env leaf own = uncalled k env leaf (calling_letter phases.Post k) leaf.node.kind own

module _ (k : Key) (core : Core) (d : Domain) (e : Edit) where
  abbrev before : Leaf
  before = input_leaf core e

  becomes_if : (b : Bool) (c : Content) → with_answer (if b then Becomes c else Passed) before
      ≡ (if b then with_content c before else before)
  becomes_if true c = refl
  becomes_if false c = refl

  edited_if : (kind : Kind) → IsTrue (is_input kind) → asked_by kind ≡ Some d
      → with_answer (key_answer kind k (content_of before)) before ≡ (if is_edit_key k then input_leaf core (edited d k e) else before)
  edited_if (kinds.Input input) is asked =
      ap (λ o. with_answer (if is_edit_key k then Becomes (edit_content (edited_in o k e)) else Passed) before) asked
      ∙ becomes_if (is_edit_key k) _
  edited_if _ is asked = absurd (false≢true is)

  -- its own keys edit its text by the domain that it asks for
  pub input_keyed : (p : Phase) → IsTrue (is_input core.node.kind) → asked_by core.node.kind ≡ Some d
      → leaf_keyed k p before ≡ (if is_own_key p k then input_leaf core (edited d k e) else before)
  input_keyed phases.Focused own asked = edited_if core.node.kind own asked
  input_keyed phases.Pre own asked = refl
  input_keyed phases.Post own asked = refl

-- ---- values

-- a value that it may have is a text
text_value : (kind : Kind) → IsTrue (is_input kind) → (v : Option Value) → IsFieldValue kind v
    → (text : List ℕ) × (v ≡ Some (values.Text text))
text_value (kinds.Input input) is (Some (values.Text text)) h = (text, refl)
text_value (kinds.Input input) is (Some (values.Marks marks)) h = absurd h
text_value (kinds.Input input) is (Some (values.Item item)) h = absurd h
text_value (kinds.Input input) is None h = absurd h
text_value _ is v h = absurd (false≢true is)

pub fitting_text : (entries : Entries) (leaf : Leaf) → IsTrue (is_input leaf.node.kind) → Fits entries leaf
    → (text : List ℕ) × (value_of entries leaf.node.id.0 ≡ Some (values.Text text))
unfolding Fits
fitting_text entries leaf own fits = text_value leaf.node.kind own (value_of entries leaf.node.id.0) fits

-- a leaf without the focus and the mouse
abbrev unfocused : Leaf → Leaf
unfocused leaf = record leaf { is_focused = false; held = None }

abbrev with_private : Leaf → Option Value → Private → Leaf
with_private leaf value private = record leaf { value = value; private = private }

first_place : (kind : Kind) → IsTrue (is_input kind) → (v : Option Value) → opened_private kind v ≡ Editing 0 false
first_place (kinds.Input input) is v = refl
first_place _ is v = absurd (false≢true is)

-- it opens with the text of its field
pub input_opened : (entries : Entries) (core : Core) (e : Edit) (text : List ℕ) → IsTrue (is_input core.node.kind)
    → value_of entries core.node.id.0 ≡ Some (values.Text text)
    → set_from entries (input_leaf core e) ≡ input_leaf (record core { is_focused = false; held = None }) (edit_opened text e.overwrites)
unfolding set_from
input_opened entries core e text own is =
    ap (λ v. unfocused (leaf_opened_with v (input_leaf core e))) is
    ∙ ap (λ private. unfocused (with_private (input_leaf core e) (Some (values.Text text)) private)) (first_place core.node.kind own (Some (values.Text text)))
