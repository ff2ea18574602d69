-- What the focused control holds after a key of its own: still what its kind holds, and the same marks where no key may change one.
use Rattle.std.proofs.Common.{◌≡◌, ℕ, Bool, true, false, ◌==◌, length, Option, Some, None, is_some, if◌then◌else◌, refl, sym, ap, subst, ◌∙◌}
use Rattle.tv_event.specs.declared.event.Key.{Key}
use Rattle.tv_model.specs.declared.kind.Kind.{Kind}
use Rattle.tv_model.specs.declared.kind.Kind.TheVariants as kinds
use Rattle.tv_model.specs.declared.record.Value.{Value}
use Rattle.tv_model.specs.declared.desc.Dialog.{Dialog}
use Rattle.tv_model.specs.Description.Nodes.{is_cluster}
use Rattle.tv_model.specs.Description.Numbers.{natural}
use Rattle.tv_model.specs.Kinds.Button.{is_press}
use Rattle.tv_model.specs.Kinds.Cluster as clusters
use Rattle.tv_model.specs.Kinds.Cluster.{Cluster, ClusterKey, cluster_key, may_change, cluster_of, held_marks, selected_of, with_cluster, cluster_answer, is_marked}
use Rattle.tv_model.specs.Controls.Shortcut.{ClusterKind, Boxes, Radios}
use Rattle.tv_model.specs.Kinds.InputLine.{Edit, is_edit_key, edit_content, edit_of, edited_by}
use Rattle.tv_model.specs.Kinds.ListBox.{asked_item, chosen, chosen_of, with_chosen, list_answer}
use Rattle.tv_machine.specs.Leaves.{PlacedNode}
use Rattle.tv_model.specs.Controls.Contents.{Content}
use Rattle.tv_model.specs.Controls.Behaviour.{Passed, Becomes, Presses}
use Rattle.tv_machine.specs.Controls.Tables.{key_answer}
use Rattle.tv_machine.specs.Dialog.Modal.{Modal, content_at, content_put}
use Rattle.tv_view.specs.Reactions.{may_mark_by}
use Rattle.tv_machine.specs.Dialog.Lawful.{IsLawfulDialog}
use Rattle.tv_machine.specs.Dialog.Alike.{HoldSame}
use Rattle.tv_group.specs.Tree.{IsSteady, IsSteadyContent, IsSteadyInput, tree_as, tree_of}
use Rattle.tv_machine.proofs.ListLemmas.{bool_cases}
use Rattle.tv_group.proofs.Tree.FlagLemmas.{flags-same}
use Rattle.tv_machine.proofs.MarkLemmas.{hold-changed, hold-unclustered}
use Rattle.tv_machine.proofs.LeafLemmas.{IsIn}
use Rattle.tv_group.proofs.Tree.TreeLemmas.{steady-leaf}

-- ---- it holds what its kind does

edit-steady : (e : Edit) → IsSteadyInput true (edit_content e)
edit-steady e = record { text = e.text; cursor = e.cursor; is_whole = e.is_whole; value = refl; private = refl; rested = λ h. absurd cc }

input_steady : (b : Bool) (e : Edit) (c : Content) → (if b then Becomes (edit_content e) else Passed) ≡ Becomes c → IsSteadyInput true c
input_steady true e c is = let same : edit_content e ≡ c = cc in subst (IsSteadyInput true) same (edit-steady e)
input_steady false e c is = absurd cc

-- what a cluster holds has a value
cluster-some : (kind : ClusterKind) (cluster : Cluster) (before c : Content)
    → with_cluster kind cluster before ≡ c → is_some c.value ≡ true
cluster-some Boxes cluster before c same = ap (λ content. is_some content.value) (sym same)
cluster-some Radios cluster before c same = ap (λ content. is_some content.value) (sym same)

cluster_steady : (kind : ClusterKind) (key : ClusterKey) (before c : Content)
    → cluster_answer kind key before ≡ Becomes c → is_some c.value ≡ true
cluster_steady kind clusters.Passed before c is = absurd cc
cluster_steady kind (clusters.Selects item) before c is =
    cluster-some kind (clusters.keyed_cluster kind (clusters.Selects item) (cluster_of kind before)) before c cc
cluster_steady kind (clusters.Presses item) before c is =
    cluster-some kind (clusters.keyed_cluster kind (clusters.Presses item) (cluster_of kind before)) before c cc

list_steady : (height count : ℕ) (o : Option ℕ) (before c : Content)
    → list_answer height count o before ≡ Becomes c → is_some c.value ≡ true
list_steady height count None before c is = absurd cc
list_steady height count (Some item) before c is =
    let same : with_chosen (chosen height count item (chosen_of before)) before ≡ c = cc in
    ap (λ content. is_some content.value) (sym same)

press-keeps : (b : Bool) (c : Content) → (if b then Presses else Passed) ≡ Becomes c → ⊥
press-keeps true c is = cc
press-keeps false c is = cc

pub key-steady : (kind : Kind) (k : Key) (before c : Content) → key_answer kind k before ≡ Becomes c → IsSteadyContent true kind c
key-steady (kinds.Input input) k before c is = input_steady (is_edit_key k) (edited_by input.spec k (edit_of before)) c is
key-steady (kinds.CheckBoxes boxes) k before c is =
    cluster_steady Boxes (cluster_key boxes.items (length boxes.items) (selected_of Boxes before) k) before c is
key-steady (kinds.RadioButtons radios) k before c is =
    cluster_steady Radios (cluster_key radios.items (length radios.items) (selected_of Radios before) k) before c is
key-steady (kinds.List list) k before c is =
    list_steady (natural list.h) (length list.items) (asked_item (natural list.h) (length list.items) (chosen_of before) k) before c is
key-steady (kinds.Button button) k before c is = absurd (press-keeps (is_press k) c is)
key-steady _ k before c is = absurd cc

-- ---- its marks

some-marks : (value : Option Value) → is_some value ≡ true → value ≡ Some (held_marks value)
some-marks None h = absurd cc
some-marks (Some value) h = refl

boxes_marks : (key : ClusterKey) (before c : Content) → is_some before.value ≡ true
    → cluster_answer Boxes key before ≡ Becomes c → may_change Boxes key ≡ false → before.value ≡ c.value
boxes_marks clusters.Passed before c some is may = absurd cc
boxes_marks (clusters.Selects item) before c some is may =
    let same : with_cluster Boxes (clusters.keyed_cluster Boxes (clusters.Selects item) (cluster_of Boxes before)) before ≡ c = cc in
    some-marks before.value some ∙ ap (λ content. content.value) same
boxes_marks (clusters.Presses item) before c some is may = absurd cc

radios_marks : (key : ClusterKey) (before c : Content)
    → cluster_answer Radios key before ≡ Becomes c → may_change Radios key ≡ false → before.value ≡ c.value
radios_marks clusters.Passed before c is may = absurd cc
radios_marks (clusters.Selects item) before c is may = absurd cc
radios_marks (clusters.Presses item) before c is may = absurd cc

-- a key that may change no mark of a cluster changes none
key-marks : (kind : Kind) (k : Key) (focused : Bool) (before c : Content) → is_cluster kind ≡ true → IsSteadyContent focused kind before
    → key_answer kind k before ≡ Becomes c → may_mark_by kind k before ≡ false → before.value ≡ c.value
key-marks (kinds.CheckBoxes boxes) k focused before c cluster steady is may =
    boxes_marks (cluster_key boxes.items (length boxes.items) (selected_of Boxes before) k) before c steady is may
key-marks (kinds.RadioButtons radios) k focused before c cluster steady is may =
    radios_marks (cluster_key radios.items (length radios.items) (selected_of Radios before) k) before c is may
key-marks _ k focused before c cluster steady is may = absurd cc

module _ (d : Dialog) (lawful : IsLawfulDialog d) (m : Modal) (S : IsSteady d m) (leaf : PlacedNode) (found : IsIn d leaf)
    (k : Key) (c : Content) (is : key_answer leaf.node.kind k (content_at m leaf.node.id) ≡ Becomes c) where
  -- the dialog whose leaf holds what the key made of it
  abbrev keyed : Modal
  keyed = content_put d leaf.node.id c m

  -- rules go by the same marks where the key may change none
  pub hold-keyed : may_mark_by leaf.node.kind k (content_at m leaf.node.id) ≡ false → HoldSame d m.leaves keyed.leaves
  hold-keyed may =
      bool_cases (is_cluster leaf.node.kind) (λ b. HoldSame d m.leaves keyed.leaves)
      (λ cluster.
      hold-changed d lawful m S.leaves leaf.node.id c
      (λ item. ap (λ value. is_marked value item)
      (key-marks leaf.node.kind k (leaf.node.id.0 == m.focus.0) (content_at m leaf.node.id) c cluster
      (steady-leaf d lawful m S leaf found) is may)))
      (λ other. hold-unclustered d lawful m S.leaves leaf.node.id c leaf found other)

  -- so leaves are shown and enabled as they were
  pub tree-keyed : may_mark_by leaf.node.kind k (content_at m leaf.node.id) ≡ false → tree_as d m.leaves keyed ≡ tree_of d keyed
  tree-keyed may = flags-same d m.leaves keyed.leaves (hold-keyed may) keyed
