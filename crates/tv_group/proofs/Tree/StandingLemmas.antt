-- A leaf as it stands in a tree, by what it holds, also where the focus comes and goes.
use Rattle.std.proofs.Common.{◌≡◌, Bool, true, false, ◌==◌, ℕ, List, Option, Some, refl, sym, ap, subst, ◌∙◌}
use Rattle.std.proofs.lemmas.Bool.{true≢false}
use Rattle.tv_model.specs.declared.node.Id.{Id}
use Rattle.tv_model.specs.declared.kind.Kind.{Kind}
use Rattle.tv_model.specs.declared.kind.Kind.TheVariants as kinds
use Rattle.tv_model.specs.declared.record.Value.{Value}
use Rattle.tv_model.specs.declared.record.Value.TheVariants as values
use Rattle.tv_model.specs.declared.desc.Dialog.{Dialog}
use Rattle.tv_model.specs.Kinds.InputLine.{Edit, entered, left, edit_content, edit_of}
use Rattle.tv_view.specs.Meaning.{Leaf, Placed}
use Rattle.tv_machine.specs.State.{LeafState}
use Rattle.tv_model.specs.Controls.Private.{Private, Editing}
use Rattle.tv_machine.specs.Leaves.{PlacedNode}
use Rattle.tv_model.specs.Controls.Contents.{Content, text_of}
use Rattle.tv_machine.specs.Dialog.Focus.{focus_moved}
use Rattle.tv_machine.specs.Dialog.Rules.{is_enabled, is_visible}
use Rattle.tv_machine.specs.Dialog.Modal.{Modal, content_at}
use Rattle.tv_machine.specs.Dialog.Lawful.{IsLawfulDialog}
use Rattle.tv_machine.proofs.LeafLemmas.{leaves-are}
use Rattle.tv_machine.proofs.RefocusLemmas.{content_at-moved, leaves-moved, moved_content, refocused_content}
use Rattle.tv_view.specs.Calls as calls
use Rattle.tv_group.specs.Tree.{IsSteady, IsSteadyContent, IsSteadyInput, IsSteadyLeaf, around_of}
use Rattle.tv_group.proofs.Tree.TreeLemmas.{steady-leaf}

-- ---- a leaf by what it holds

abbrev pub standing_leaf : Dialog → List LeafState → PlacedNode → Content → Bool → Option ℕ → Leaf
standing_leaf d ruled leaf c is_focused held = record {
  node = leaf.node;
  value = c.value;
  private = c.private;
  overwrites = c.overwrites;
  is_focused = is_focused;
  held = held;
  is_shown = is_visible d ruled leaf;
  is_enabled = is_enabled d ruled leaf.node;
}

-- the same in its place, where current members lead to the focus
abbrev pub standing : Dialog → List LeafState → PlacedNode → Content → Bool → Option ℕ → Placed
standing d ruled leaf c is_focused held =
    record { leaf = standing_leaf d ruled leaf c is_focused held; around = around_of d leaf; is_current = is_focused }

-- ---- the coming and going of the focus

-- the view's is the same
pub refocused-standing : (d : Dialog) (ruled : List LeafState) (leaf : PlacedNode) (c : Content) (is_focused : Bool) (held : Option ℕ)
    (edit : Edit → Edit) (k : Kind)
    → calls.leaf_refocused edit k (standing_leaf d ruled leaf c is_focused held)
    ≡ standing_leaf d ruled leaf (refocused_content edit k c) is_focused held
refocused-standing d ruled leaf c is_focused held edit (kinds.Input input) = refl
refocused-standing d ruled leaf c is_focused held edit _ = refl

input_with : Option Value → Private → Bool → Content
input_with value private overwrites = record { value = value; private = private; overwrites = overwrites }

rests_input : (c : Content) → IsSteadyInput false c → edit_content (left (edit_of c)) ≡ c
unfolding input_with
rests_input c s =
    ap (λ t. input_with (Some (values.Text t)) (Editing 0 false) c.overwrites) (ap text_of s.value)
    ∙ ap (λ v. input_with v (Editing 0 false) c.overwrites) (sym s.value)
    ∙ ap (λ p. input_with c.value p c.overwrites) (sym (s.rested refl))

-- an input without the focus is at rest already
pub left-rests : (k : Kind) (c : Content) → IsSteadyContent false k c → refocused_content left k c ≡ c
left-rests (kinds.Input input) c s = rests_input c s
left-rests _ c s = refl

pub steady-left : (k : Kind) (c : Content) (is_focused : Bool) → IsSteadyContent is_focused k c
    → IsSteadyContent false k (refocused_content left k c)
steady-left (kinds.Input input) c is_focused s =
    record { text = text_of c.value; cursor = 0; is_whole = false; value = refl; private = refl; rested = λ e. refl }
steady-left _ c is_focused s = s

pub steady-entered : (k : Kind) (c : Content) (is_focused : Bool) → IsSteadyContent is_focused k c
    → IsSteadyContent true k (refocused_content entered k c)
steady-entered (kinds.Input input) c is_focused s = record {
  text = text_of c.value;
  cursor = (entered (edit_of c)).cursor;
  is_whole = (entered (edit_of c)).is_whole;
  value = refl;
  private = refl;
  rested = λ e. absurd (true≢false e);
}
steady-entered _ c is_focused s = s

steady_moved_to : (to from : Bool) (k : Kind) (c : Content) → IsSteadyContent from k c → IsSteadyContent to k (moved_content to from k c)
steady_moved_to true true k c s = steady-entered k (refocused_content left k c) false (steady-left k c true s)
steady_moved_to true false k c s = steady-entered k c false s
steady_moved_to false true k c s = steady-left k c true s
steady_moved_to false false k c s = s

module _ (d : Dialog) (lawful : IsLawfulDialog d) where
  pub steady-moved : (m : Modal) (i : Id) → IsSteady d m → IsSteady d (focus_moved d i m)
  steady-moved m i steady = record {
    leaves = leaves-moved d lawful m i steady.leaves;
    contents = leaves-are d lawful (IsSteadyLeaf (focus_moved d i m))
        (λ leaf e. subst (IsSteadyContent (leaf.node.id.0 == i.0) leaf.node.kind) (sym (content_at-moved d lawful m i steady.leaves leaf e))
        (steady_moved_to (leaf.node.id.0 == i.0) (leaf.node.id.0 == m.focus.0) leaf.node.kind (content_at m leaf.node.id)
        (steady-leaf d lawful m steady leaf e)));
  }
